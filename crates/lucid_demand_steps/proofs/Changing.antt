-- What a call makes of the rows that have tags, it makes of the plain rows.
use Rattle.lucid_demand_steps.proofs.Common.{◌≡◌, ℕ, List, Option, Some, None, refl, ap, ◌∙◌, Value, plain, Context, Key, Part, Task, Cursor, TaskRow, Asked, Got, PlainRow, got, all_idle, new_row, plain_task, plain_key, plain_state, plain_row, plain_rows, with_part, at_cursor, given_to, SetsRow, ChangesRow, AsksRow, SettlesRow, map-set}
use Rattle.std.proofs.Common.{◌==◌, Bool, true, false}
use Rattle.std.specs.Prelude.{◌≢◌, if◌then◌else◌, option_map, option_and_then}
use Rattle.lucid_tasks.specs.Rows as rows
use Rattle.lucid_tasks.specs.Rows.{row_at}
use Rattle.lucid_demand_steps.specs.Changes.{waits_for}
use Rattle.lucid_demand_steps.proofs.Slots.{same_choice, choice_later}

-- a choice of rows is seen by its cases
seen_by_cases : (known : List Context) (t : Bool) (a b : Option TaskRow)
    → option_map (plain_row known) (if t then a else b) ≡ (if t then option_map (plain_row known) a else option_map (plain_row known) b)
seen_by_cases known true a b = refl
seen_by_cases known false a b = refl

-- a row with a part set so, seen plain, is the plain row with the part set so
with_part_seen : (known : List Context) (i : ℕ) (s : rows.PartState) (o : Option TaskRow)
    → option_map (plain_row known) (option_map (rows.with_part i s) o) ≡ option_map (with_part i (plain_state s)) (option_map (plain_row known) o)
with_part_seen known i s None = refl
with_part_seen known i s (Some r) = ap (λ ps. Some (record (plain_row known r) { parts = ps })) (map-set plain_state r.parts i s)

-- a task is asked for a part, or as the root
pub plain_asks : (known : List Context) (old new : List (Option TaskRow)) (part : Option Part) (slot : ℕ) (x : Task) (key : Option Key)
    → rows.Asks old new part slot x key
    → AsksRow (plain_rows known old) (plain_rows known new) part slot (plain_task known x) (option_map (plain_key known) key)
plain_asks known old new part slot x key asks q =
    ap (λ o. option_map (plain_row known) o) (asks q) ∙ seen_by_cases known (q == slot) (Some (rows.fresh x part key)) (rows.waiting part slot q (row_at old q))
    ∙ ap (λ o. if q == slot then Some (new_row (plain_task known x) part (option_map (plain_key known) key)) else o) (waiting_seen part (row_at old q))
  where
    waiting_seen : (p : Option Part) (o : Option TaskRow)
        → option_map (plain_row known) (rows.waiting p slot q o) ≡ waits_for p slot q (option_map (plain_row known) o)
    waiting_seen None o = refl
    waiting_seen (Some p) o =
        seen_by_cases known (q == p.slot) (option_map (rows.with_part p.index (Asked slot)) o) o
        ∙ ap (λ z. if q == p.slot then z else option_map (plain_row known) o) (with_part_seen known p.index (Asked slot) o)

-- a part gets a value
pub plain_gives : (known : List Context) (old new : List (Option TaskRow)) (part : Part) (v : Value)
    → rows.ChangesOnly old new part.slot (rows.with_part part.index (Got v))
    → ChangesRow (plain_rows known old) (plain_rows known new) part.slot (with_part part.index (got (plain v)))
plain_gives known old new part v changes q =
    ap (λ o. option_map (plain_row known) o) (changes q)
    ∙ seen_by_cases known (q == part.slot) (option_map (rows.with_part part.index (Got v)) (row_at old q)) (row_at old q)
    ∙ ap (λ o. if q == part.slot then o else plain_rows known old q) (with_part_seen known part.index (Got v) (row_at old q))

-- a row settles from where it stood before its values were taken
pub settles_after_taking : (old taken new : List (Option TaskRow)) (slot : ℕ) (v : Value) → ((q : ℕ) → q ≢ slot → row_at taken q ≡ row_at old q)
    → rows.parent_of taken slot ≡ rows.parent_of old slot → rows.Settles taken new slot v → rows.Settles old new slot v
settles_after_taking old taken new slot v others parent settles q =
    settles q ∙ ap (λ p. if q == slot then None else rows.given p v q (row_at taken q)) parent
    ∙ choice_later q slot None (rows.given (rows.parent_of old slot) v q (row_at taken q)) (rows.given (rows.parent_of old slot) v q (row_at old q))
    (λ n. ap (λ o. rows.given (rows.parent_of old slot) v q o) (others q n))

-- a row settles
pub plain_settles : (known : List Context) (old new : List (Option TaskRow)) (slot : ℕ) (r : TaskRow) (v : Value) → row_at old slot ≡ Some r
    → rows.Settles old new slot v
    → SettlesRow (plain_rows known old) (plain_rows known new) slot (plain_row known r) (plain v)
plain_settles known old new slot r v at settles q =
    let up : rows.parent_of old slot ≡ r.parent = ap (λ o. option_and_then (λ row. row.parent) o) at in
    ap (λ o. option_map (plain_row known) o) (settles q) ∙ seen_by_cases known (q == slot) None (rows.given (rows.parent_of old slot) v q (row_at old q))
    ∙ ap (λ p. if q == slot then None else option_map (plain_row known) (rows.given p v q (row_at old q))) up
    ∙ ap (λ o. if q == slot then None else o) (given_seen r.parent (row_at old q))
  where
    given_seen : (p : Option Part) (o : Option TaskRow)
        → option_map (plain_row known) (rows.given p v q o) ≡ given_to p (plain v) q (option_map (plain_row known) o)
    given_seen None o = refl
    given_seen (Some part) o =
        seen_by_cases known (q == part.slot) (option_map (rows.with_part part.index (Got v)) o) o
        ∙ ap (λ x. if q == part.slot then x else option_map (plain_row known) o) (with_part_seen known part.index (Got v) o)

-- a row that is changed is set, where it is seen to be changed so
pub sets_row : (known : List Context) (old new : List (Option TaskRow)) (slot : ℕ) (r : TaskRow) (change : TaskRow → TaskRow) (s : PlainRow)
    → row_at old slot ≡ Some r
    → plain_row known (change r) ≡ s → rows.ChangesOnly old new slot change → SetsRow (plain_rows known old) (plain_rows known new) slot (Some s)
sets_row known old new slot r change s at is changes q =
    ap (λ o. option_map (plain_row known) o) (changes q) ∙ seen_by_cases known (q == slot) (option_map change (row_at old q)) (row_at old q)
    ∙ same_choice q slot (option_map (plain_row known) (option_map change (row_at old q))) (Some s) (plain_rows known old q)
    (λ e. ap (λ k. option_map (plain_row known) (option_map change (row_at old k))) e ∙ ap (λ o. option_map (plain_row known) (option_map change o)) at
    ∙ ap Some is)

-- a search begins at a cursor
pub plain_begins : (known : List Context) (old new : List (Option TaskRow)) (slot : ℕ) (r : TaskRow) (c : Cursor) → row_at old slot ≡ Some r
    → (plain_row known r).parts ≡ all_idle
    → rows.ChangesOnly old new slot (rows.with_cursor c) → SetsRow (plain_rows known old) (plain_rows known new) slot (Some (at_cursor c (plain_row known r)))
plain_begins known old new slot r c at free changes =
    sets_row known old new slot r (rows.with_cursor c) (at_cursor c (plain_row known r)) at
    (ap (λ ps. record (plain_row known r) { cursor = c; parts = ps }) free) changes
