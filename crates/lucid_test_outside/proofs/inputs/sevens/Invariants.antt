use Rattle.lucid_inputs.specs.Inputs.{IsAskable}
use Rattle.lucid_test_outside.proofs.inputs.sevens.Given as goal

abbrev pub invariant-loop-index : goal.invariant-loop-index
invariant-loop-index g l = IsAskable l.inputs 0 (g.P.Places.world l.places)
