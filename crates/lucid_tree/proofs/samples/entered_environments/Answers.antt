use Rattle.lucid_tree.proofs.Common.{refl}
use Rattle.lucid_tree.proofs.samples.entered_environments.Goals as goal

pub returns : goal.returns
returns c = (refl, refl, refl)
