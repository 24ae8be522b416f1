use Rattle.lucid_inputs.proofs.StreamLemmas.{fresh_fits}
use Rattle.lucid_inputs.proofs.laws.fresh_fits.Goals as goal

pub returns : goal.returns
returns c = fresh_fits
