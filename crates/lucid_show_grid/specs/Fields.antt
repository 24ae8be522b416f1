-- Texts in columns.
use Rattle.std.specs.Prelude.{ℕ, ◌-◌, replicate, List, ◌++◌, length, codes, decimal}

-- so many blanks (32)
unfoldable pub blanks : (count : ℕ) → List ℕ
blanks n = replicate n 32

-- a text at the left end of so many columns, and at the right end; one that is longer stands whole
unfoldable pub left : (columns : ℕ) → List ℕ → List ℕ
left n text = text ++ blanks (n - length text)

unfoldable pub right : (columns : ℕ) → List ℕ → List ℕ
right n text = blanks (n - length text) ++ text

-- how many of something are left out
unfoldable pub left_out_text : (what : List ℕ) → (count : ℕ) → List ℕ
left_out_text what n = codes ".. (" ++ (what ++ (codes " left out: " ++ (decimal n ++ codes ")")))
