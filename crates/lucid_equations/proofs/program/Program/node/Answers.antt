use Rattle.lucid_equations.proofs.Common.{sizes, table_of}
use Rattle.lucid_equations.proofs.Rising.{read-row, node-in_range}
use Rattle.lucid_equations.proofs.program.Program.node.Goals as goal

pub returns-clause-meaning : goal.returns-clause-meaning
returns-clause-meaning c =
    rw c.items.ensures.value (read-row (table_of c.args.self.now).constants (table_of c.args.self.now).inputs (sizes (table_of c.args.self.now))
    (table_of c.args.self.now).nodes c.args.id _ c.args.self.now.in_range.2 c.requires)

pub returns-clause-in_range : goal.returns-clause-in_range
returns-clause-in_range c =
    rw c.items.ensures.value (node-in_range (sizes (table_of c.args.self.now)) (table_of c.args.self.now).nodes c.args.id _ c.args.self.now.in_range.2
    c.requires)
