-- The plain form of a value, one level at a time, and what a list keeps.
use Rattle.std.specs.Prelude.{ℕ, ◌≤◌, ◌≡◌, ◌+◌, length, IsTrue}
use Rattle.lucid_value.specs.Plain.{PlainValue, int, truth, word, text, list, eod, fault, Items, no_items, item, listed, weights, nestings, all_well_formed, all_in_range, most_weight, most_nesting}
use Rattle.lucid_value.specs.declared.Value.{Value}
use Rattle.lucid_value.specs.declared.Value.TheVariants.{Int, Truth, Word, Text, List as ListV, Eod, Fault}
use Rattle.lucid_value.specs.declared.Link.{Link}
use Rattle.lucid_value.specs.declared.Link.TheVariants.{End, More}

-- The plain form of a value.
abbrev pub plain : Value → PlainValue
plain (Int n) = int n
plain (Truth b) = truth b
plain (Word w) = word w
plain (Text x) = text x
plain (ListV l) = list l
plain Eod = eod
plain Fault = fault

-- the items of a chain of cells, the first one in front
abbrev pub items : Link → Items
items End = no_items
items (More c) = item (plain c.value.item) c.value.rest

-- the length, the weight and the nesting that the first cell keeps
abbrev pub kept_len : Link → ℕ
kept_len End = 0
kept_len (More c) = c.value.len

abbrev pub kept_weight : Link → ℕ
kept_weight End = 1
kept_weight (More c) = c.value.weight

abbrev pub kept_nesting : Link → ℕ
kept_nesting End = 1
kept_nesting (More c) = c.value.nesting

-- a measure that falls from a list to each of its items: the number of lists and of places for items in a value
abbrev mutual
  pub size_value : PlainValue → ℕ
  size_value (int n) = 0
  size_value (truth b) = 0
  size_value (word bs) = 0
  size_value (text bs) = 0
  size_value (list vs) = size_items vs + 1
  size_value eod = 0
  size_value fault = 0

  pub size_items : Items → ℕ
  size_items no_items = 0
  size_items (item v vs) = size_value v + size_items vs + 1

-- the list is within the limits, and its first cell keeps its length, its weight and its nesting
pub record IsKept (top : Link) : Type 0 where
  pub counts : kept_len top ≡ length (listed (items top))
  pub weighs : kept_weight top ≡ weights (items top) + 1
  pub nests : kept_nesting top ≡ nestings (items top) + 1
  pub short : kept_len top + 1 ≤ kept_weight top
  pub light : kept_weight top ≤ most_weight
  pub flat : kept_nesting top ≤ most_nesting
  pub formed : IsTrue (all_well_formed (items top))
  pub ranged : IsTrue (all_in_range (items top))
