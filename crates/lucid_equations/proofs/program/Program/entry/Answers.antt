use Rattle.lucid_equations.proofs.Common.{sizes, table_of}
use Rattle.lucid_equations.proofs.Rising.{name-in_range}
use Rattle.lucid_equations.proofs.program.Program.entry.Goals as goal

pub returns-clause-in_range : goal.returns-clause-in_range
returns-clause-in_range c =
    rw c.items.ensures.value (name-in_range (sizes (table_of c.args.self.now)) (table_of c.args.self.now).names c.args.name _ c.args.self.now.in_range.3
    c.requires)
