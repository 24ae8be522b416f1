-- Pieces written one behind the other.
use Rattle.lucid_test_programs.proofs.Common.{◌≡◌, ℕ, List, ◌++◌, length, Option, Some, None, refl, ap, sym, with_front, with_all, take-length}

-- a whole piece is its longest front
pub all-front : (a : List ℕ) (o : Option (List ℕ)) → with_all a o ≡ with_front (length a) a o
all-front a None = refl
all-front a (Some bytes) = ap (λ front. Some (bytes ++ front)) (sym (take-length a))
