-- What the operations on strings give, the item at a place, and the order of values. This language's own rules.
use Rattle.std.specs.Prelude.{ℕ, ℤ, pos, negsuc, List, length, nat_le, ◌&&◌, if◌then◌else◌, slice_range, slice_get, Option, Some, None}
use Rattle.std.specs.Ordering.{int_cmp, nat_cmp}
use Rattle.std.specs.Cmp.Lexicographic.{slice_cmp}
use Rattle.std.specs.declared.cmp.Ordering.{Ordering}
use Rattle.lucid_value.specs.Plain.{PlainValue, int, word, text, fault, Items, is_light, listed}

-- The string of these bytes, or `error` where it is too heavy.
abbrev pub limited_text : List ℕ → PlainValue
limited_text bs = if is_light bs then text bs else fault

-- The bytes at the places i to j - 1, from 0, where 0 <= i <= j and j is at most the length; else `error`.
abbrev pub cut_of : List ℕ → ℤ → ℤ → PlainValue
cut_of bs (pos i) (pos j) = if nat_le i j && nat_le j (length bs) then text (slice_range bs i j) else fault
cut_of bs (pos i) (negsuc j) = fault
cut_of bs (negsuc i) j = fault

-- the value, or `error` where there is none
abbrev pub value_or_fault : Option PlainValue → PlainValue
value_or_fault None = fault
value_or_fault (Some v) = v

-- Item i, from 0, or `error` where no item stands there.
abbrev pub pick_of : Items → ℤ → PlainValue
pick_of vs (pos i) = value_or_fault (slice_get (listed vs) i)
pick_of vs (negsuc i) = fault

-- The order of two integers by size, of two words and of two strings by bytes, a proper prefix first; else none.
abbrev pub order_of : PlainValue → PlainValue → Option Ordering
order_of (int m) (int n) = Some (int_cmp m n)
order_of (word bs) (word cs) = Some (slice_cmp nat_cmp bs cs)
order_of (text bs) (text cs) = Some (slice_cmp nat_cmp bs cs)
order_of _ _ = None
