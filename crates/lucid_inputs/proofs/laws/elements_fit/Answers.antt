use Rattle.lucid_inputs.proofs.StreamLemmas.{elements_fit}
use Rattle.lucid_inputs.proofs.laws.elements_fit.Goals as goal

pub returns : goal.returns
returns c = elements_fit
