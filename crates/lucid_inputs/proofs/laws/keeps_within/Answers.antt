use Rattle.lucid_inputs.proofs.InputsLemmas.{keeps_within}
use Rattle.lucid_inputs.proofs.laws.keeps_within.Goals as goal

pub returns : goal.returns
returns c = keeps_within
