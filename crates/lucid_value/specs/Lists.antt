-- What the list operations give: the plain list, or `error` where it would pass a limit of weight or nesting. Lists and these
-- limits are this language's own rules.
use Rattle.std.specs.Prelude.{◌+◌, ◌≤◌, nat_le, ◌&&◌, Bool, if◌then◌else◌, List, [], ◌∷◌}
use Rattle.lucid_value.specs.Plain.{PlainValue, list, fault, Items, no_items, item, weights, nestings, most_weight, most_nesting}

-- a list of these items is within the limits of weight and nesting
abbrev pub fits : Items → Bool
fits vs = nat_le (weights vs + 1) most_weight && nat_le (nestings vs + 1) most_nesting

-- The list of these items, or `error` where it passes a limit.
abbrev pub limited_list : Items → PlainValue
limited_list vs = if fits vs then list vs else fault

-- A list of these items passes a limit: it is too heavy or nests too deep.
abbrev pub IsOverLimit : Items → Type 0
IsOverLimit vs = ¬ ((weights vs + 1 ≤ most_weight) × (nestings vs + 1 ≤ most_nesting))

-- the items with a value in front
abbrev pub in_front : PlainValue → Items → Items
in_front v vs = item v vs

-- the items of the left list and then those of the right one
abbrev pub joined : Items → Items → Items
joined no_items vs = vs
joined (item v us) vs = item v (joined us vs)

-- the values in front of the items
abbrev pub onto : List PlainValue → Items → Items
onto [] vs = vs
onto (u ∷ us) vs = item u (onto us vs)

-- The first item, or `error` where there is none.
abbrev pub first_of : Items → PlainValue
first_of no_items = fault
first_of (item v vs) = v

-- The list of all items but the first, or `error` where there is none.
abbrev pub rest_of : Items → PlainValue
rest_of no_items = fault
rest_of (item v vs) = list vs
