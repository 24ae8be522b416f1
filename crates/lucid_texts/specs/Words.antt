-- The words of a line, and how they are taken off it one by one.
use Rattle.std.specs.Prelude.{◌≡◌, ℕ, ◌<◌, Bool, true, false, ◌&&◌, nat_lt, if◌then◌else◌, List, [], ◌∷◌, Option, Some, None, decimal, ◌==◌}
use Rattle.std.specs.List.{All, AllByRecursion, flat_map, slice_split}
use Rattle.std.specs.Option.{option_and_then}
use Rattle.std.specs.Str.{bytes_eq}
use Rattle.std.specs.Str.Parse.{digits_value}

-- no byte of the list is this one
abbrev pub HasNone : ℕ → List ℕ → Type 0
HasNone c bs = All (λ b. (b == c) ≡ false) bs

-- The words of bytes, one blank between each two; and of bytes that are left, if any are.
abbrev pub words_of : List ℕ → List (List ℕ)
words_of bs = slice_split (λ b. b == 32) bs

abbrev pub words_left : Option (List ℕ) → List (List ℕ)
words_left None = []
words_left (Some bs) = words_of bs

infixl 10 ◌>>=◌
abbrev pub ◌>>=◌ : {A B : Type 0} → Option A → (A → Option B) → Option B
o >>= f = option_and_then f o

-- The number that a word is: in decimal digits without leading zeros, below the bound.
unfoldable pub number_of : (bound : ℕ) → List ℕ → Option ℕ
number_of b w = if bytes_eq (decimal (digits_value 10 w)) w && nat_lt (digits_value 10 w) b then Some (digits_value 10 w) else None

-- words, each behind a blank
abbrev pub spaced : List (List ℕ) → List ℕ
spaced ws = flat_map (λ w. 32 ∷ w) ws

-- the next word, or the number that it is, and the words behind it
abbrev pub take_word : List (List ℕ) → Option (List ℕ × List (List ℕ))
take_word [] = None
take_word (w ∷ ws) = Some (w, ws)

unfoldable pub take_number : (bound : ℕ) → List (List ℕ) → Option (ℕ × List (List ℕ))
take_number b ws = do
  x ← take_word ws
  n ← number_of b x.0
  Some (n, x.1)

-- the numbers that words are
abbrev pub numbers_of : (bound : ℕ) → List (List ℕ) → Option (List ℕ)
numbers_of b [] = Some []
numbers_of b (w ∷ ws) = do
  n ← number_of b w
  ns ← numbers_of b ws
  Some (n ∷ ns)

-- numbers below a bound
abbrev pub AreBelow : (bound : ℕ) → List ℕ → Type 0
AreBelow b ns = AllByRecursion (λ n. n < b) ns

-- whether no word is left
abbrev pub is_end : List (List ℕ) → Bool
is_end [] = true
is_end (w ∷ ws) = false
