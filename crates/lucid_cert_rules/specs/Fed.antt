-- Plans fed by uses: the values of looks are taken from a list of uses, in order, and the list has to be used up.
use Rattle.std.specs.Prelude.{ℕ, List, [], ◌∷◌, Option, Some, None}
use Rattle.std.specs.Option.{option_and_then}
use Rattle.lucid_value.specs.Plain.{PlainValue}
use Rattle.lucid_tree.specs.Rows.{Look, Plan, gives, nothing, looks}

-- the value of a use, where it is one of the look
abbrev pub Uses : Type 0
Uses = Look → (number : ℕ) → Option PlainValue

-- the values of looks, one use for each in their order, and the uses that are left
abbrev pub take_values : Uses → List Look → List ℕ → Option (List PlainValue × List ℕ)
take_values value [] us = Some ([], us)
take_values value (l ∷ ls) [] = None
take_values value (l ∷ ls) (u ∷ us) = option_and_then (λ v. option_and_then (λ (r : List PlainValue × List ℕ). Some (v ∷ r.0, r.1)) (take_values value ls us)) (value l u)

-- The value of a plan that is fed by exactly these uses. What gives a value is fed by none; what looks is fed by one use for each look, in
-- order, and goes on with their values.
abbrev pub fed : Uses → Plan → List ℕ → Option PlainValue
fed value (gives v) [] = Some v
fed value (gives v) (u ∷ us) = None
fed value nothing us = None
fed value (looks ls k) us = option_and_then (λ r. fed value (k r.0) r.1) (take_values value ls us)
