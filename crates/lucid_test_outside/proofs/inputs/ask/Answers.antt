use Rattle.lucid_inputs.proofs.InputsLemmas.{askable_then}
use Rattle.lucid_test_outside.proofs.inputs.ask.Goals as goal

pub returns : goal.returns
returns g c = askable_then _ _ _ _ _ _ c.requires c.element.follows.holds-at-none.reads
