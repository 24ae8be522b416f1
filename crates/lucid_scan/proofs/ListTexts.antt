-- The texts of lists.
use Rattle.lucid_scan.proofs.Common.{◌≡◌, ℕ, List, [], ◌∷◌, ◌++◌, refl, Items, list}
use Rattle.lucid_value.specs.Reading.{Denotes, denotes_list}

pub list_shape : {t : List ℕ} {vs : Items} → Denotes t (list vs) → (bs : List ℕ) × (t ≡ 91 ∷ (37 ∷ (bs ++ 37 ∷ (93 ∷ []))))
list_shape (denotes_list bs vs d) = (bs, refl)
