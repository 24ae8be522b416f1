-- What the steps of the reader of a line give.
use Rattle.std.specs.Prelude.{◌≡◌, ℕ, List, [], ◌∷◌, ◌++◌, if◌then◌else◌, Option, Some, None}
use Rattle.lucid_value.specs.Plain.{PlainValue}
use Rattle.lucid_value.specs.Reading.{is_blank, Reads}
use Rattle.lucid_value.specs.View.{plain}
use Rattle.lucid_value.specs.declared.Value.{Value}

-- the bytes without the blanks in front
abbrev pub after_blanks : List ℕ → List ℕ
after_blanks [] = []
after_blanks (b ∷ bs) = if is_blank b then after_blanks bs else b ∷ bs

-- the bytes don't stand between two quotes
abbrev pub IsUnquoted : List ℕ → Type 0
IsUnquoted bytes = (inner : List ℕ) → bytes ≡ 96 ∷ (inner ++ 39 ∷ []) → ⊥

-- the bytes read as the value, or as none
abbrev pub IsRead : Option Value → List ℕ → Type 0
IsRead (Some v) bytes = Reads bytes (plain v)
IsRead None bytes = (v : PlainValue) → Reads bytes v → ⊥
