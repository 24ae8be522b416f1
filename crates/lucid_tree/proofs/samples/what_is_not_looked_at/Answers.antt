use Rattle.lucid_tree.proofs.Common.{refl}
use Rattle.lucid_tree.proofs.samples.what_is_not_looked_at.Goals as goal

pub returns : goal.returns
returns c = (refl, refl, (refl, refl), (refl, refl), refl)
