use Rattle.lucid_tree.proofs.Common.{refl}
use Rattle.lucid_tree.proofs.samples.binomial_numbers.Goals as goal

pub returns : goal.returns
returns c = (
  (refl, refl),
  (refl, refl),
  (refl, refl),
  (refl, refl),
  (refl, refl),
  (refl, refl),
  (refl, refl),
  (refl, refl),
  (refl, refl),
  (refl, refl),
  (refl, refl),
)
