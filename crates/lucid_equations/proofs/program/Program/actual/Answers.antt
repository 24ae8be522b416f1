use Rattle.lucid_equations.proofs.Common.{sizes, table_of}
use Rattle.lucid_equations.proofs.Rising.{actual-in_range}
use Rattle.lucid_equations.proofs.program.Program.actual.Goals as goal

pub returns-clause-below : goal.returns-clause-below
returns-clause-below c =
    actual-in_range (sizes (table_of c.args.self.now)) (table_of c.args.self.now).places c.items.result.now c.args.place c.index-items-place.result
    c.items-2.result.now c.args.index 0 c.args.self.now.in_range.4 c.items.ensures.value c.requires.known c.index-items-place.is c.items-2.ensures.value
    c.requires.few
