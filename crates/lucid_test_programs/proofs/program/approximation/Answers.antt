use Rattle.lucid_test_programs.proofs.Common.{arith}
use Rattle.lucid_tree.proofs.Depths.{nodes_le-places}
use Rattle.lucid_test_programs.proofs.WellMade.{shaped_applies}
use Rattle.lucid_test_programs.proofs.program.approximation.Goals as goal

pub value-requires-clause-small : goal.value-requires-clause-small
value-requires-clause-small c = omega (arith, nodes_le-places c.args.tree.now, c.requires.well_made.few)

pub value-requires-clause-applies : goal.value-requires-clause-applies
value-requires-clause-applies c = shaped_applies c.args.tree.now c.requires.well_made.shaped
