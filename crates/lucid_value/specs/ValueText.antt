-- The text of a value, as it is printed: decimal digits without leading zeros, `true`, `false`, a word's bytes, a string
-- in its quotes, a list in `[%` and `%]` with a blank before each item and before the end. This language's own rule.
use Rattle.std.specs.Prelude.{ℕ, true, false, List, [], ◌∷◌, ◌++◌, codes}
use Rattle.std.specs.Fmt.{signed_decimal}
use Rattle.lucid_value.specs.Plain.{PlainValue, int, truth, word, text, list, eod, fault, Items, no_items, item}

-- the text of a value
abbrev mutual
  pub value_text : PlainValue → List ℕ
  value_text (int n) = signed_decimal n
  value_text (truth true) = codes "true"
  value_text (truth false) = codes "false"
  value_text (word bs) = bs
  value_text (text bs) = 96 ∷ (bs ++ codes "'")
  value_text (list vs) = codes "[%" ++ items_text vs ++ codes " %]"
  value_text eod = codes "eod"
  value_text fault = codes "error"

  -- a blank and the text, for each item
  pub items_text : Items → List ℕ
  items_text no_items = []
  items_text (item v vs) = 32 ∷ (value_text v ++ items_text vs)

-- the text of the list of these items
abbrev pub list_text : Items → List ℕ
list_text vs = value_text (list vs)
