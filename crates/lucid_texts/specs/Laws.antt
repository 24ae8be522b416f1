-- Laws of texts. Each is proved as the contract of a function of the same name.
use Rattle.std.specs.Prelude.{◌≡◌, IsTrue}
use Rattle.lucid_value.specs.Plain.{PlainValue, is_value}
use Rattle.lucid_value.specs.ValueText.{value_text}

-- No text is that of two values.
abbrev pub OneValue : Type 0
OneValue = (v w : PlainValue) → IsTrue (is_value v) → IsTrue (is_value w) → value_text v ≡ value_text w → v ≡ w
