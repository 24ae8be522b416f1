-- Laws of texts and reading. Each is proved as the contract of a function of the same name.
use Rattle.std.specs.Prelude.{◌≡◌, ℕ, List, IsTrue}
use Rattle.lucid_value.specs.Plain.{PlainValue, is_value}
use Rattle.lucid_value.specs.Reading.{Reads, ReadsLine, IsListFront}
use Rattle.lucid_value.specs.ValueText.{value_text}
use Rattle.lucid_value.specs.Lines.{IsElement}
use Rattle.lucid_value.specs.Elements.{element}

-- The text of a value is read as that value.
abbrev pub TextIsRead : Type 0
TextIsRead = (v : PlainValue) → IsTrue (is_value v) → Reads (value_text v) v

-- No bytes are read as two values.
abbrev pub OneReading : Type 0
OneReading = (bytes : List ℕ) (v w : PlainValue) → Reads bytes v → Reads bytes w → v ≡ w

-- No line is read as two values.
abbrev pub OneLineReading : Type 0
OneLineReading = (line : List ℕ) (v w : PlainValue) → ReadsLine line v → ReadsLine line w → v ≡ w

-- No list's bytes begin another list's.
abbrev pub OneListFront : Type 0
OneListFront = (bytes : List ℕ) (m n : ℕ) → IsListFront bytes m → IsListFront bytes n → m ≡ n

-- The function of elements gives each element, and an element is one value.
abbrev pub ElementIs : Type 0
ElementIs = (bytes : List ℕ) (j : ℕ) → IsElement bytes j (element bytes j)

abbrev pub OneElement : Type 0
OneElement = (bytes : List ℕ) (j : ℕ) (v : PlainValue) → IsElement bytes j v → v ≡ element bytes j
