-- The test whether two values are one: never across kinds, words and strings by their bytes, lists item by item.
use Rattle.std.specs.Prelude.{Bool, true, false, ◌&&◌}
use Rattle.std.specs.Ordering.{int_eq}
use Rattle.lucid_value.specs.Plain.{PlainValue, int, truth, word, text, list, eod, fault, Items, no_items, item, same_bytes}

-- two values are one
abbrev mutual
  pub same_value : PlainValue → PlainValue → Bool
  same_value (int m) (int n) = int_eq m n
  same_value (truth true) (truth b) = b
  same_value (truth false) (truth true) = false
  same_value (truth false) (truth false) = true
  same_value (word bs) (word cs) = same_bytes bs cs
  same_value (text bs) (text cs) = same_bytes bs cs
  same_value (list vs) (list ws) = same_items vs ws
  same_value eod eod = true
  same_value fault fault = true
  same_value _ _ = false

  -- two lists have the same items
  pub same_items : Items → Items → Bool
  same_items no_items no_items = true
  same_items no_items (item w ws) = false
  same_items (item v vs) no_items = false
  same_items (item v vs) (item w ws) = same_value v w && same_items vs ws
