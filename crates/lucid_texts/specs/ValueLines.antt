-- The value that bytes are the text of.
use Rattle.std.specs.Prelude.{◌≡◌, ℕ, List, Option, Some, None, IsTrue}
use Rattle.lucid_value.specs.Plain.{PlainValue, is_value}
use Rattle.lucid_value.specs.ValueText.{value_text}
use Rattle.lucid_value.specs.View.{plain}
use Rattle.lucid_value.specs.declared.Value.{Value}

-- the bytes are the text of this value; or they are no value's
abbrev pub IsValueOf : List ℕ → Option Value → Type 0
IsValueOf bytes (Some v) = IsTrue (is_value (plain v)) × (bytes ≡ value_text (plain v))
IsValueOf bytes None = (v : PlainValue) → IsTrue (is_value v) → bytes ≡ value_text v → ⊥
