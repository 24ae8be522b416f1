-- A search goes on: the values of its parts are taken, and its cursor is set.
use Rattle.lucid_demand_steps.proofs.Common.{◌≡◌, ◌⊎◌, inl, inr, ℕ, List, [], ◌∷◌, Option, Some, None, refl, sym, ap, ◌∙◌, arith, map, slice_set, slice_index_or, list_all, cases_eq, Context, Cursor, TaskRow, Idle, Asked, Got, idle, is_free, state_at, all_idle, waits_for_none, plain_state, plain_row, plain_rows, at_cursor, SetsRow}
use Rattle.std.proofs.Common.{◌==◌, Bool, true, false, ◌&&◌}
use Rattle.std.specs.Prelude.{if◌then◌else◌, length, option_map}
use Rattle.lucid_tasks.specs.Rows as rows
use Rattle.lucid_tasks.specs.Rows.{row_at, emptied}
use Rattle.lucid_demand_steps.proofs.Slots.{at_it, at_another}
use Rattle.lucid_demand_steps.proofs.Changing.{sets_row}

-- one change of a slot's row after another
changes_then : (old mid new : List (Option TaskRow)) (slot : ℕ) (f g : TaskRow → TaskRow) → rows.ChangesOnly old mid slot f → rows.ChangesOnly mid new slot g
    → rows.ChangesOnly old new slot (λ r. g (f r))
changes_then old mid new slot f g first second q = go (cases_eq q slot)
  where
    twice : (o : Option TaskRow) → option_map g (option_map f o) ≡ option_map (λ r. g (f r)) o
    twice None = refl
    twice (Some r) = refl

    go : (q ≡ slot) ⊎ (q ≡ slot → ⊥) → row_at new q ≡ (if q == slot then option_map (λ r. g (f r)) (row_at old q) else row_at old q)
    go (inl e) =
        second q ∙ at_it q slot (option_map g (row_at mid q)) (row_at mid q) e
        ∙ ap (λ o. option_map g o) (first q ∙ at_it q slot (option_map f (row_at old q)) (row_at old q) e)
        ∙ twice (row_at old q) ∙ sym (at_it q slot (option_map (λ r. g (f r)) (row_at old q)) (row_at old q) e)
    go (inr n) =
        second q ∙ at_another q slot (option_map g (row_at mid q)) (row_at mid q) n
        ∙ first q ∙ at_another q slot (option_map f (row_at old q)) (row_at old q) n
        ∙ sym (at_another q slot (option_map (λ r. g (f r)) (row_at old q)) (row_at old q) n)

-- a part that isn't asked is idle once its value is taken
taken_is_idle : (s : rows.PartState) → is_free (plain_state s) ≡ true → plain_state (emptied s) ≡ idle
taken_is_idle Idle e = refl
taken_is_idle (Asked slot) e = absurd (cc)
taken_is_idle (Got v) e = refl

both_true : (a b : Bool) → a && b ≡ true → (a ≡ true) × (b ≡ true)
both_true true b e = (refl, e)
both_true false b e = absurd (cc)

-- the parts of a row once the values of parts 1 and 0 are taken
taken_parts : List rows.PartState → List rows.PartState
taken_parts ps = let once = slice_set ps 1 (emptied (slice_index_or ps 1 Idle)) in slice_set once 0 (emptied (slice_index_or once 0 Idle))

-- all are idle then
all_taken : (ps : List rows.PartState) → length ps ≡ 3 → list_all is_free (map plain_state ps) ≡ true → state_at (map plain_state ps) 2 ≡ idle
    → map plain_state (taken_parts ps) ≡ all_idle
unfolding taken_parts
all_taken (a ∷ b ∷ c ∷ []) l f e =
    let first = both_true (is_free (plain_state a)) (is_free (plain_state b) && (is_free (plain_state c) && true)) f in
    let second = both_true (is_free (plain_state b)) (is_free (plain_state c) && true) first.1 in
    ap (λ x. x ∷ plain_state (emptied b) ∷ plain_state c ∷ []) (taken_is_idle a first.0) ∙ ap (λ x. idle ∷ x ∷ plain_state c ∷ []) (taken_is_idle b second.0)
    ∙ ap (λ x. idle ∷ idle ∷ x ∷ []) e
all_taken ps l f e = absurd (omega (arith, l))

-- a search goes on at a cursor
pub plain_moves : (known : List Context) (old one two new : List (Option TaskRow)) (slot : ℕ) (r : TaskRow) (c : Cursor) → row_at old slot ≡ Some r
    → length r.parts ≡ 3
    → waits_for_none (plain_row known r) ≡ true → state_at (plain_row known r).parts 2 ≡ idle → rows.ChangesOnly old one slot (rows.taken 1)
    → rows.ChangesOnly one two slot (rows.taken 0)
    → rows.ChangesOnly two new slot (rows.with_cursor c) → SetsRow (plain_rows known old) (plain_rows known new) slot (Some (at_cursor c (plain_row known r)))
unfolding taken_parts
plain_moves known old one two new slot r c at three ready third first second cursor =
    sets_row known old new slot r (λ s. rows.with_cursor c (rows.taken 0 (rows.taken 1 s))) (at_cursor c (plain_row known r)) at
    (ap (λ ps. record (plain_row known r) { cursor = c; parts = ps }) (all_taken r.parts three ready third))
    (changes_then old two new slot (λ s. rows.taken 0 (rows.taken 1 s)) (rows.with_cursor c)
    (changes_then old one two slot (rows.taken 1) (rows.taken 0) first second) cursor)
