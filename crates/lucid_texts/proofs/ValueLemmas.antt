-- Lemmas on the text of a value.
use Rattle.lucid_texts.proofs.Common.{◌≡◌, ℕ, List, [], refl, sym, ap, ◌∙◌, IsTrue, append-nil, PlainValue, is_value, value_text}
use Rattle.lucid_value.specs.Reading.{ReadsLine, ReadsAsNone}
use Rattle.lucid_value.specs.Laws.{TextIsRead, OneLineReading}
use Rattle.lucid_texts.specs.Laws.{OneValue}

-- the text of a value reads as it
pub reads_text : TextIsRead → (bytes : List ℕ) (v : PlainValue) → IsTrue (is_value v) → bytes ≡ value_text v → ReadsLine bytes v
reads_text law bytes v h e = record {
  before = [];
  bytes = value_text v;
  after = [];
  parts = e ∙ sym (append-nil (value_text v));
  blank_before = refl;
  blank_after = refl;
  reads = law v h;
}

-- what reads as no value is no value's text
pub no_text : TextIsRead → (bytes : List ℕ) → ReadsAsNone bytes → (v : PlainValue) → IsTrue (is_value v) → bytes ≡ value_text v → ⊥
no_text law bytes r v h e = r v (reads_text law bytes v h e)

-- what reads as a value is no other's text
pub same_text : TextIsRead → OneLineReading → (bytes : List ℕ) (w v : PlainValue) → ReadsLine bytes w → IsTrue (is_value v) → bytes ≡ value_text v
    → value_text w ≡ bytes
same_text law one bytes w v r h e = ap value_text (one bytes w v r (reads_text law bytes v h e)) ∙ sym e

-- no text is that of two values
pub one_value : TextIsRead → OneLineReading → OneValue
one_value law one v w h k e = one (value_text v) v w (reads_text law (value_text v) v h refl) (reads_text law (value_text v) w k e)
