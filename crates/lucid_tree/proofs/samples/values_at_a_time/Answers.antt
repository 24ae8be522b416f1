use Rattle.lucid_tree.proofs.Common.{refl}
use Rattle.lucid_tree.proofs.samples.values_at_a_time.Goals as goal

pub returns : goal.returns
returns c = ((refl, refl), (refl, refl), (refl, refl), (refl, refl), (refl, refl), (refl, refl))
