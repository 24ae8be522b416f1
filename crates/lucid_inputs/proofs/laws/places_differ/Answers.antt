use Rattle.lucid_inputs.proofs.InputsLemmas.{places_differ}
use Rattle.lucid_inputs.proofs.laws.places_differ.Goals as goal

pub returns : goal.returns
returns c = places_differ
