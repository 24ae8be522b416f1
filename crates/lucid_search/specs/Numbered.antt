-- A map from keys to numbers as a list of pairs in rising order of their keys.
use Rattle.std.specs.Prelude.{◌≡◌, ℕ, ◌<◌, ◌≤◌, List, [], ◌∷◌, length, if◌then◌else◌, ◌==◌, slice_index_or, Option, Some, None}

-- the number of the first pair with the key
abbrev pub number_in : List (ℕ × ℕ) → ℕ → Option ℕ
number_in [] key = None
number_in ((k, x) ∷ rest) key = if k == key then Some x else number_in rest key

-- the key of the pair at a place
abbrev pub key_at : ℕ × ℕ → List (ℕ × ℕ) → ℕ → ℕ
key_at d pairs i = let pair = slice_index_or pairs i d in pair.0

-- the keys rise, so that none comes twice
abbrev pub Rises : List (ℕ × ℕ) → Type 0
Rises pairs = (d : ℕ × ℕ) (i j : ℕ) → i < j → j < length pairs → key_at d pairs i < key_at d pairs j

-- the pair at the place has the key
pub record IsAt (pairs : List (ℕ × ℕ)) (key i : ℕ) : Type 0 where
  pub in_range : i < length pairs
  pub has : (d : ℕ × ℕ) → key_at d pairs i ≡ key

-- the key would stand at the place: smaller ones before it, greater ones from it on
pub record IsGapFor (pairs : List (ℕ × ℕ)) (key i : ℕ) : Type 0 where
  pub in_range : i ≤ length pairs
  pub smaller : (d : ℕ × ℕ) (j : ℕ) → j < i → key_at d pairs j < key
  pub greater : (d : ℕ × ℕ) (j : ℕ) → i ≤ j → j < length pairs → key < key_at d pairs j

-- the key has the number, and every other key what it had
abbrev pub SetsOne : (ℕ → Option ℕ) → (ℕ → Option ℕ) → ℕ → ℕ → Type 0
SetsOne old new key number = (q : ℕ) → new q ≡ (if q == key then Some number else old q)
