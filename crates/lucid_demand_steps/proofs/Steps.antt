-- A change of two slots is two changes of one slot each.
use Rattle.lucid_demand_steps.proofs.Common.{◌≡◌, ◌⊎◌, inl, inr, ℕ, Option, Some, None, sym, ap, ◌∙◌, cases_eq, PlainValue, Part, PlainTask, PlainRow, PlainRows, DatonAt, asked, got, new_row, with_part, given_to, SetsRow, ChangesRow, AsksRow, SettlesRow}
use Rattle.std.proofs.Common.{◌==◌}
use Rattle.std.specs.Prelude.{if◌then◌else◌, option_map}
use Rattle.lucid_demand_steps.proofs.Slots.{at_it, at_another, same_choice}

-- the rows with this one, or none, in a slot
abbrev pub with_row : PlainRows → (slot : ℕ) → Option PlainRow → PlainRows
with_row rows slot o q = if q == slot then o else rows q

-- a row that is changed is set
pub changes_is_set : (old new : PlainRows) (slot : ℕ) (f : PlainRow → PlainRow) (r : PlainRow) → old slot ≡ Some r → ChangesRow old new slot f
    → SetsRow old new slot (Some (f r))
changes_is_set old new slot f r at changes q = changes q
    ∙ same_choice q slot (option_map f (old q)) (Some (f r)) (old q) (λ e. ap (λ o. option_map f o) (ap old e ∙ at))

-- a part is asked, and then its row is new
pub asks_in_two : (old new : PlainRows) (part : Part) (slot : ℕ) (r : PlainRow) (x : PlainTask) (key : Option DatonAt) → old part.slot ≡ Some r
    → AsksRow old new (Some part) slot x key
    → SetsRow (with_row old part.slot (Some (with_part part.index (asked slot) r))) new slot (Some (new_row x (Some part) key))
asks_in_two old new part slot r x key at asks q =
    asks q ∙ ap (λ o. if q == slot then Some (new_row x (Some part) key) else o)
    (same_choice q part.slot (option_map (with_part part.index (asked slot)) (old q)) (Some (with_part part.index (asked slot) r)) (old q)
    (λ e. ap (λ o. option_map (with_part part.index (asked slot)) o) (ap old e ∙ at)))

-- a row goes, and then its value is given to the part
pub settles_in_two : (old new : PlainRows) (slot : ℕ) (r p : PlainRow) (part : Part) (v : PlainValue) → r.parent ≡ Some part → (part.slot ≡ slot → ⊥)
    → old part.slot ≡ Some p
    → SettlesRow old new slot r v → SetsRow (with_row old slot None) new part.slot (Some (with_part part.index (got v) p))
settles_in_two old new slot r p part v up apart there settles q = settles q ∙ ap (λ o. if q == slot then None else given_to o v q (old q)) up
    ∙ go (cases_eq q slot) (cases_eq q part.slot)
  where
    changed : Option PlainRow
    changed = Some (with_part part.index (got v) p)

    given : Option PlainRow
    given = given_to (Some part) v q (old q)

    go : (q ≡ slot) ⊎ (q ≡ slot → ⊥) → (q ≡ part.slot) ⊎ (q ≡ part.slot → ⊥)
        → (if q == slot then None else given) ≡ (if q == part.slot then changed else with_row old slot None q)
    go (inl e) (inl f) = absurd (apart (sym f ∙ e))
    go (inl e) (inr m) = at_it q slot None given e ∙ sym (at_it q slot None (old q) e) ∙ sym (at_another q part.slot changed (with_row old slot None q) m)
    go (inr n) (inl f) =
        at_another q slot None given n ∙ at_it q part.slot (option_map (with_part part.index (got v)) (old q)) (old q) f
        ∙ ap (λ o. option_map (with_part part.index (got v)) o) (ap old f ∙ there) ∙ sym (at_it q part.slot changed (with_row old slot None q) f)
    go (inr n) (inr m) =
        at_another q slot None given n ∙ at_another q part.slot (option_map (with_part part.index (got v)) (old q)) (old q) m
        ∙ sym (at_another q slot None (old q) n) ∙ sym (at_another q part.slot changed (with_row old slot None q) m)
