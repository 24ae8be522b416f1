-- What bytes begin with, as the functions that look for a token say it to each other.
use Rattle.std.specs.Prelude.{◌≡◌, ℕ, ◌≤◌, ◌<◌, List, length, take, slice_index, Bool, true, not, ◌||◌, ◌==◌}
use Rattle.std.specs.Char.{is_ascii_alphabetic, is_ascii_digit}
use Rattle.lucid_scan.specs.Texts.{is_mark}

-- The first n bytes pass the test, and the closing byte comes behind them.
pub record Closed (closing : ℕ) (test : List ℕ → Bool) (bytes : List ℕ) (n : ℕ) : Type 0 where
  pub within : n < length bytes
  pub closes : slice_index bytes n ≡ closing
  pub tested : test (take n bytes) ≡ true

-- The first n bytes are a mark.
pub record IsMarkFront (bytes : List ℕ) (n : ℕ) : Type 0 where
  pub within : n ≤ length bytes
  pub mark : is_mark (take n bytes) ≡ true

-- The first n bytes are a mark, and so is none of the longer fronts.
pub record IsLongestMark (bytes : List ℕ) (n : ℕ) : Type 0 where
  pub stands : IsMarkFront bytes n
  pub longest : (m : ℕ) → IsMarkFront bytes m → m ≤ n

-- No front of the bytes is a mark.
abbrev pub NoMarkStands : List ℕ → Type 0
NoMarkStands bytes = (m : ℕ) → IsMarkFront bytes m → ⊥

-- a byte with which no token but a mark begins: no letter, digit, `"`, backquote or `[`
abbrev pub is_other : ℕ → Bool
is_other b = not (is_ascii_alphabetic b || is_ascii_digit b || b == 34 || b == 96 || b == 91)
