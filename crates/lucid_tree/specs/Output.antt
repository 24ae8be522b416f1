-- The output of a program: the texts of the values that it means at the times from 0 on, one a line.
use Rattle.std.specs.Prelude.{◌≡◌, ℕ, zero, suc, List, [], ◌∷◌, ◌++◌}
use Rattle.lucid_value.specs.Plain.{PlainValue, eod}
use Rattle.lucid_value.specs.ValueText.{value_text}
use Rattle.lucid_tree.specs.Tree.{PlainTree}
use Rattle.lucid_tree.specs.Levels.{Elements}
use Rattle.lucid_tree.specs.Env.{empty}
use Rattle.lucid_tree.specs.Meaning.{Means}

-- an output line: the value's text and a line feed
abbrev pub line : PlainValue → List ℕ
line v = value_text v ++ 10 ∷ []

-- The program's output for k times is these bytes: at each time below k it means a value that isn't end of data, at space 0.
pub data Output (b : Elements) (p : PlainTree) : (k : ℕ) → (bytes : List ℕ) → Type 0 where
  no_lines : Output b p zero []
  one_line_more : {k : ℕ} {bytes : List ℕ} → Output b p k bytes → (v : PlainValue) → Means b p empty k 0 v → (v ≡ eod → ⊥)
      → Output b p (suc k) (bytes ++ line v)
