use Rattle.lucid_test_programs.proofs.Common.{arith, common_steps}
use Rattle.lucid_test_programs.proofs.Finds.{element_in_at, element_in_past}
use Rattle.lucid_test_programs.proofs.streams.element_of.Goals as goal

pub returns-in-Some : goal.returns-in-Some
returns-in-Some c = grind (arith, common_steps, element_in_at, c.in-Some.ensures)

pub returns-in-None : goal.returns-in-None
returns-in-None c = grind (arith, common_steps, element_in_past, c.in-None.ensures)
