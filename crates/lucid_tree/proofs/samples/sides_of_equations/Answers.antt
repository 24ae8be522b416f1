use Rattle.lucid_tree.proofs.Common.{refl}
use Rattle.lucid_tree.proofs.samples.sides_of_equations.Goals as goal

pub returns : goal.returns
returns c = (
  record { left = (refl, refl); right = (refl, refl) },
  record { left = (refl, refl); right = (refl, refl) },
  record { left = (refl, refl); right = refl },
  record { left = (refl, refl); right = refl },
  record { left = (refl, refl); right = (refl, refl) },
  record { left = (refl, refl); right = (refl, refl) },
  record { left = (refl, refl); right = (refl, refl) },
  record { left = (refl, refl); right = refl },
  record { left = refl; right = refl },
  record { left = (refl, refl); right = (refl, refl) },
)
