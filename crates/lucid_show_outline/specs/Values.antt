-- The text of a value in a line.
use Rattle.std.specs.Prelude.{ℕ, List, ◌++◌, take, length, codes, decimal, nat_le, if◌then◌else◌}
use Rattle.lucid_value.specs.Plain.{PlainValue}
use Rattle.lucid_value.specs.ValueText.{value_text}
use Rattle.lucid_print.specs.Canonical.{constant_text}

-- the first 20 bytes, and how many there are
unfoldable pub front_text : List ℕ → List ℕ
front_text bs = take 20 bs ++ (codes ".. (" ++ (decimal (length bs) ++ codes " bytes)"))

-- A text of at most 24 bytes whole; of a longer one the front.
unfoldable pub short_text : List ℕ → List ℕ
short_text bs = if nat_le (length bs) 24 then bs else front_text bs

unfoldable pub value_shown : PlainValue → List ℕ
value_shown v = short_text (value_text v)

-- a constant, as it stands in a source
unfoldable pub constant_shown : PlainValue → List ℕ
constant_shown v = short_text (constant_text v)
