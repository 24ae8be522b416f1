-- A map from numbers as a list of pairs in rising order.
use Rattle.std.specs.Prelude.{◌≡◌, ℕ, ◌<◌, ◌≤◌, List, [], ◌∷◌, length, if◌then◌else◌, ◌==◌, slice_index_or, Option, Some, None}

-- what the first pair with the number has
abbrev pub value_at : {X : Type 0} → List (ℕ × X) → ℕ → Option X
value_at [] number = None
value_at ((n, x) ∷ rest) number = if n == number then Some x else value_at rest number

-- the number of the pair at a place
abbrev pub number_at : {X : Type 0} → ℕ × X → List (ℕ × X) → ℕ → ℕ
number_at d pairs i = let pair = slice_index_or pairs i d in pair.0

-- the numbers rise, so that none comes twice
abbrev pub Rises : {X : Type 0} → List (ℕ × X) → Type 0
Rises {X} pairs = (d : ℕ × X) (i j : ℕ) → i < j → j < length pairs → number_at d pairs i < number_at d pairs j

-- each number is below one
abbrev pub AreBelow : {X : Type 0} → ℕ → List (ℕ × X) → Type 0
AreBelow {X} room pairs = (d : ℕ × X) (i : ℕ) → i < length pairs → number_at d pairs i < room

-- the pair at the place has the number
pub record IsAt {X : Type 0} (pairs : List (ℕ × X)) (number i : ℕ) : Type 0 where
  pub in_range : i < length pairs
  pub has : (d : ℕ × X) → number_at d pairs i ≡ number

-- the number would stand at the place: smaller ones before it, greater ones from it on
pub record IsGapFor {X : Type 0} (pairs : List (ℕ × X)) (number i : ℕ) : Type 0 where
  pub in_range : i ≤ length pairs
  pub smaller : (d : ℕ × X) (j : ℕ) → j < i → number_at d pairs j < number
  pub greater : (d : ℕ × X) (j : ℕ) → i ≤ j → j < length pairs → number < number_at d pairs j

-- the number has this, or nothing, and every other number what it had
abbrev pub SetsOne : {X : Type 0} → (ℕ → Option X) → (ℕ → Option X) → ℕ → Option X → Type 0
SetsOne old new number value = (q : ℕ) → new q ≡ (if q == number then value else old q)
