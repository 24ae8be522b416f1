use Rattle.lucid_inputs.proofs.InputsLemmas.{asked_again}
use Rattle.lucid_inputs.proofs.laws.asked_again.Goals as goal

pub returns : goal.returns
returns c = asked_again
