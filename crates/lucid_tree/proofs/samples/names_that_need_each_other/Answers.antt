use Rattle.lucid_tree.proofs.Common.{refl}
use Rattle.lucid_tree.proofs.samples.names_that_need_each_other.Goals as goal

pub returns : goal.returns
returns c = ((refl, refl), (refl, refl), (refl, refl), (refl, refl), (refl, refl), (refl, refl), (refl, refl))
