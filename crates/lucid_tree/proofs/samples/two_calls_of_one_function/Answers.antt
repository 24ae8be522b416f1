use Rattle.lucid_tree.proofs.Common.{refl}
use Rattle.lucid_tree.proofs.samples.two_calls_of_one_function.Goals as goal

pub returns : goal.returns
returns c = ((refl, refl), (refl, refl), (refl, refl))
