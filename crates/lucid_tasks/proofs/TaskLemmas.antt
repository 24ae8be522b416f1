-- What each call makes of the rows and of the list of ready ones.
use Rattle.lucid_tasks.proofs.Common.{◌≡◌, ◌≢◌, ℕ, zero, suc, ◌<◌, true, false, cond, ◌==◌, List, [], ◌∷◌, ◌++◌, length, get_or, set, Option, Some, None, IsSome, ◌⊎◌, inl, inr, refl, ap, sym, subst, ◌∙◌, arith, option_and_then, option_map, list_all, none-some, cases_eq, Value, Part, Task, Key, is_listed, RiseFrom, PartState, Idle, Asked, Got, TaskRow, row_at, parent_of, child_of, state_at, asked_slot, got_value, got_of, is_free, is_ready, emptied, taken, fresh, with_part, AreTasks, IsRow, IsPast, SetsOnly, ChangesOnly}
use Rattle.lucid_lists.proofs.Options.{value_there}
use Rattle.lucid_tasks.specs.Rows.{state_of, given, Asks, Settles}
use Rattle.lucid_tasks.proofs.Cases.{chosen, chosen_same, chosen_other, other_index, some_is}
use Rattle.lucid_tasks.proofs.SlotLemmas.{listed_push, rise_push}
use Rattle.lucid_tasks.proofs.RowLemmas.{fresh_part, part_set, part_other, parts_length, asked_waits, free_set}
use Rattle.lucid_tasks.proofs.ForestLemmas.{child_in, forest_by_links, forest_asked, forest_settled, ready_is_free, ready_is_row}

-- the parent of a row, if there is a row that has one
abbrev parent_in : Option TaskRow → Option Part
parent_in o = option_and_then (λ (row : TaskRow). row.parent) o

no_row : (o : Option TaskRow) → (IsSome o → ⊥) → o ≡ None
no_row None h = refl
no_row (Some row) h = absurd (h refl)

past_none : (rows : List (Option TaskRow)) (slot : ℕ) → IsPast rows slot → row_at rows slot ≡ None
past_none rows slot past = no_row (row_at rows slot) (λ some. let below = past slot some in omega (arith, below))

three_of_row : (o : Option TaskRow) (row : TaskRow) → ((r : TaskRow) → o ≡ Some r → length r.parts ≡ 3)
    → Some (length row.parts) ≡ option_map (λ (r : TaskRow). length r.parts) o → length row.parts ≡ 3
three_of_row None row three e = absurd (none-some (length row.parts) (sym e))
three_of_row (Some r) row three e = some_is 0 (length row.parts) (length r.parts) e ∙ three r refl

-- ---- a row that changes in place, with the same parent and the same parts asked

module _ (old new : List (Option TaskRow)) (slot : ℕ) (change : TaskRow → TaskRow) (only : ChangesOnly old new slot change) where
  pub there : row_at new slot ≡ option_map change (row_at old slot)
  there = only slot ∙ chosen_same slot slot (option_map change (row_at old slot)) (row_at old slot) refl

  pub elsewhere : (q : ℕ) → q ≢ slot → row_at new q ≡ row_at old q
  elsewhere q ne = only q ∙ chosen_other q slot (option_map change (row_at old q)) (row_at old q) ne

  same_of : {Y : Type 0} (f : Option TaskRow → Y) → f (option_map change (row_at old slot)) ≡ f (row_at old slot) → (q : ℕ)
      → f (row_at new q) ≡ f (row_at old q)
  same_of f h q = elim (cases_eq q slot) [
    | inl e ↦ ap (λ s. f (row_at new s)) e ∙ ap f there ∙ h ∙ ap (λ s. f (row_at old s)) (sym e)
    | inr ne ↦ ap f (elsewhere q ne)
  ]

  pub changed_tasks : parent_in (option_map change (row_at old slot)) ≡ parent_in (row_at old slot)
      → ((i : ℕ) → child_in i (option_map change (row_at old slot)) ≡ child_in i (row_at old slot))
      → is_ready (option_map change (row_at old slot)) ≡ is_ready (row_at old slot)
      → option_map (λ (r : TaskRow). length r.parts) (option_map change (row_at old slot)) ≡ option_map (λ (r : TaskRow). length r.parts) (row_at old slot)
      → (ready : List ℕ) → AreTasks old ready → AreTasks new ready
  changed_tasks parent child free long ready t = record {
    forest = forest_by_links old new (same_of parent_in parent) (λ p. same_of (child_in p.index) (child p.index) p.slot) t.forest;
    rising = t.rising;
    listed = λ q. t.listed q ∙ sym (same_of is_ready free q);
    three = λ q row e. three_of_row (row_at old q) row (t.three q)
        (ap (option_map (λ (r : TaskRow). length r.parts)) (sym e) ∙ same_of (option_map (λ (r : TaskRow). length r.parts)) long q);
  }

  -- by the row
  pub changed_row : (row : TaskRow) → row_at old slot ≡ Some row → (change row).parent ≡ row.parent
      → ((i : ℕ) → asked_slot (state_at i (change row)) ≡ asked_slot (state_at i row)) → list_all is_free (change row).parts ≡ list_all is_free row.parts
      → length (change row).parts ≡ length row.parts → (ready : List ℕ) → AreTasks old ready → AreTasks new ready
  changed_row row at parent child free long ready t = changed_tasks
      (ap (λ o. parent_in (option_map change o)) at ∙ parent ∙ ap parent_in (sym at))
      (λ i. ap (λ o. child_in i (option_map change o)) at ∙ child i ∙ ap (child_in i) (sym at))
      (ap (λ o. is_ready (option_map change o)) at ∙ free ∙ ap is_ready (sym at))
      (ap (λ o. option_map (λ (r : TaskRow). length r.parts) (option_map change o)) at ∙ ap Some long
      ∙ ap (option_map (λ (r : TaskRow). length r.parts)) (sym at))
      ready t

-- ---- a row whose values are taken out

taken_none : (parts : List PartState) (i : ℕ) → got_value (get_or (set parts i (emptied (get_or parts i Idle))) i Idle) ≡ None
taken_none [] i = refl
taken_none (Idle ∷ parts) zero = refl
taken_none (Asked s ∷ parts) zero = refl
taken_none (Got v ∷ parts) zero = refl
taken_none (p ∷ parts) (suc i) = taken_none parts i

module _ (old new : List (Option TaskRow)) (slot i : ℕ) (only : ChangesOnly old new slot (taken i)) where
  pub still_row : IsRow old slot → IsRow new slot
  still_row some = let at = value_there (row_at old slot) some in subst IsSome (sym (there old new slot (taken i) only ∙ ap (option_map (taken i)) at.1)) refl

  pub got_none : got_of new (record { slot = slot; index = i }) ≡ None
  got_none = ap (λ o. option_and_then got_value (option_map (state_at i) o)) (there old new slot (taken i) only) ∙ by_row (row_at old slot)
    where
      by_row : (o : Option TaskRow) → option_and_then got_value (option_map (state_at i) (option_map (taken i) o)) ≡ None
      by_row None = refl
      by_row (Some row) = taken_none row.parts i

  pub got_other : (k : ℕ) → k ≢ i → got_of new (record { slot = slot; index = k }) ≡ got_of old (record { slot = slot; index = k })
  got_other k ne = ap (λ o. option_and_then got_value (option_map (state_at k) o)) (there old new slot (taken i) only) ∙ by_row (row_at old slot)
    where
      by_row : (o : Option TaskRow) → option_and_then got_value (option_map (state_at k) (option_map (taken i) o)) ≡ option_and_then got_value
          (option_map (state_at k) o)
      by_row None = refl
      by_row (Some row) = ap got_value (part_other row.parts i (emptied (get_or row.parts i Idle)) k ne)

module _ (v0 v1 v2 v3 : List (Option TaskRow)) (slot : ℕ) (second : ChangesOnly v0 v1 slot (taken 2)) (first : ChangesOnly v1 v2 slot (taken 1))
    (zeroth : ChangesOnly v2 v3 slot (taken 0)) where
  pub all_empty : (k : ℕ) → k < 3 → got_of v3 (record { slot = slot; index = k }) ≡ None
  all_empty zero h = got_none v2 v3 slot 0 zeroth
  all_empty (suc zero) h = got_other v2 v3 slot 0 zeroth 1 (λ e. omega (arith, e)) ∙ got_none v1 v2 slot 1 first
  all_empty (suc (suc zero)) h = got_other v2 v3 slot 0 zeroth 2 (λ e. omega (arith, e)) ∙ got_other v1 v2 slot 1 first 2 (λ e. omega (arith, e))
      ∙ got_none v0 v1 slot 2 second
  all_empty (suc (suc (suc k))) h = absurd (omega (arith, h))

  pub emptied_gone : (v4 : List (Option TaskRow)) → SetsOnly v3 v4 slot None → SetsOnly v0 v4 slot None
  emptied_gone v4 gone q = gone q ∙ chosen q slot (cond (q == slot) None (row_at v3 q)) None (row_at v0 q)
      (λ e. chosen_same q slot None (row_at v3 q) e)
      (λ ne. chosen_other q slot None (row_at v3 q) ne ∙ elsewhere v2 v3 slot (taken 0) zeroth q ne ∙ elsewhere v1 v2 slot (taken 1) first q ne
      ∙ elsewhere v0 v1 slot (taken 2) second q ne)

-- a change of other words than the parts and the parent
pub words_tasks : (old new : List (Option TaskRow)) (slot : ℕ) (change : TaskRow → TaskRow) → ChangesOnly old new slot change → IsRow old slot
    → ((row : TaskRow) → (change row).parent ≡ row.parent) → ((row : TaskRow) → (change row).parts ≡ row.parts) → (ready : List ℕ) → AreTasks old ready
    → AreTasks new ready
words_tasks old new slot change only some parents parts ready t =
    let at = value_there (row_at old slot) some in
    changed_row old new slot change only at.0 at.1 (parents at.0) (λ i. ap (λ (ps : List PartState). asked_slot (get_or ps i Idle)) (parts at.0))
    (ap (list_all is_free) (parts at.0)) (ap (λ (ps : List PartState). length ps) (parts at.0)) ready t

-- a part that no task is asked for before or after
pub part_tasks : (old new : List (Option TaskRow)) (slot i : ℕ) (state : TaskRow → PartState) → ChangesOnly old new slot (λ row. with_part i (state row) row)
    → IsRow old slot → i < 3
    → ((row : TaskRow) → row_at old slot ≡ Some row → (asked_slot (state row) ≡ asked_slot (state_at i row)) × (is_free (state row) ≡ is_free (state_at i row)))
    → (ready : List ℕ) → AreTasks old ready → AreTasks new ready
part_tasks old new slot i state only some h same ready t =
    let at = value_there (row_at old slot) some in
    let three = t.three slot at.0 at.1 in
    changed_row old new slot (λ row. with_part i (state row) row) only at.0 at.1 refl
    (λ k. elim (cases_eq k i) [
      | inl e ↦ ap (λ n. asked_slot (get_or (set at.0.parts i (state at.0)) n Idle)) e
          ∙ ap asked_slot (part_set at.0.parts i (state at.0) (omega (arith, h, three))) ∙ (same at.0 at.1).0 ∙ ap (λ n. asked_slot (state_at n at.0)) (sym e)
      | inr ne ↦ ap asked_slot (part_other at.0.parts i (state at.0) k ne)
    ])
    (free_set at.0.parts i (state at.0) (same at.0 at.1).1) (parts_length at.0.parts i (state at.0)) ready t

idle_state : (o : Option TaskRow) (i : ℕ) (row : TaskRow) → option_map (state_at i) o ≡ Some Idle → o ≡ Some row → state_at i row ≡ Idle
idle_state o i row idle at = some_is Idle (state_at i row) Idle (sym (ap (option_map (state_at i)) at) ∙ idle)

pub given_tasks : (old new : List (Option TaskRow)) (part : Part) (v : Value) → ChangesOnly old new part.slot (with_part part.index (Got v))
    → IsRow old part.slot → part.index < 3
    → state_of old part ≡ Some Idle → (ready : List ℕ) → AreTasks old ready → AreTasks new ready
given_tasks old new part v only some h idle = part_tasks old new part.slot part.index (λ _. Got v) only some h
    (λ row at. let is = idle_state (row_at old part.slot) part.index row idle at in (ap asked_slot (sym is), ap is_free (sym is)))

emptied_asks : (s : PartState) → (asked_slot (emptied s) ≡ asked_slot s) × (is_free (emptied s) ≡ is_free s)
emptied_asks Idle = (refl, refl)
emptied_asks (Asked s) = (refl, refl)
emptied_asks (Got v) = (refl, refl)

pub taken_tasks : (old new : List (Option TaskRow)) (part : Part)
    → ChangesOnly old new part.slot (λ row. with_part part.index (emptied (state_at part.index row)) row) → IsRow old part.slot → part.index < 3
    → (ready : List ℕ) → AreTasks old ready → AreTasks new ready
taken_tasks old new part only some h = part_tasks old new part.slot part.index (λ row. emptied (state_at part.index row)) only some h
    (λ row at. emptied_asks (state_at part.index row))

-- ---- a new root

module _ (old new : List (Option TaskRow)) (slot : ℕ) (task : Task) (key : Option Key) (sets : SetsOnly old new slot (Some (fresh task None key)))
    (past : IsPast old slot) (ready : List ℕ) (t : AreTasks old ready) where
  listed_below : (q : ℕ) → is_listed ready q ≡ true → q < slot
  listed_below q h = past q (ready_is_row (row_at old q) (sym (t.listed q) ∙ h))

  begun_same : {Y : Type 0} (f : Option TaskRow → Y) → f (Some (fresh task None key)) ≡ f None → (q : ℕ) → f (row_at new q) ≡ f (row_at old q)
  begun_same f h q = elim (cases_eq q slot) [
    | inl e ↦ ap f (sets q ∙ chosen_same q slot (Some (fresh task None key)) (row_at old q) e) ∙ h ∙ ap f (sym (ap (row_at old) e ∙ past_none old slot past))
    | inr ne ↦ ap f (sets q ∙ chosen_other q slot (Some (fresh task None key)) (row_at old q) ne)
  ]

  pub begun_tasks : AreTasks new (ready ++ slot ∷ [])
  begun_tasks = record {
    forest = forest_by_links old new (begun_same parent_in refl) (λ p. begun_same (child_in p.index) (fresh_part p.index) p.slot) t.forest;
    rising = rise_push 0 ready slot t.rising (omega arith) listed_below;
    listed = λ q. listed_push ready slot q ∙ sym (chosen q slot (is_ready (row_at new q)) true (is_listed ready q)
        (λ e. ap is_ready (sets q ∙ chosen_same q slot (Some (fresh task None key)) (row_at old q) e))
        (λ ne. ap is_ready (sets q ∙ chosen_other q slot (Some (fresh task None key)) (row_at old q) ne) ∙ sym (t.listed q)));
    three = λ q row e. elim (cases_eq q slot) [
      | inl is ↦ ap (λ (r : TaskRow). length r.parts)
          (some_is row row (fresh task None key) (sym e ∙ sets q ∙ chosen_same q slot (Some (fresh task None key)) (row_at old q) is))
      | inr ne ↦ t.three q row (sym (sets q ∙ chosen_other q slot (Some (fresh task None key)) (row_at old q) ne) ∙ e)
    ];
  }

-- ---- a task that is asked for a part

module _ (old mid new : List (Option TaskRow)) (parent : Part) (slot : ℕ) (task : Task) (key : Option Key)
    (sets : SetsOnly old mid slot (Some (fresh task (Some parent) key))) (past : IsPast old slot)
    (only : ChangesOnly mid new parent.slot (with_part parent.index (Asked slot))) (some : IsRow old parent.slot) (h : parent.index < 3)
    (idle : state_of old parent ≡ Some Idle) where
  older : parent.slot < slot
  older = past parent.slot some

  apart : parent.slot ≢ slot
  apart e = let below = older in omega (arith, below, e)

  abbrev child : TaskRow
  child = fresh task (Some parent) key

  mid_other : (q : ℕ) → q ≢ slot → row_at mid q ≡ row_at old q
  mid_other q ne = sets q ∙ chosen_other q slot (Some child) (row_at old q) ne

  at_child : row_at new slot ≡ Some child
  at_child = elsewhere mid new parent.slot (with_part parent.index (Asked slot)) only slot (λ e. apart (sym e)) ∙ sets slot
      ∙ chosen_same slot slot (Some child) (row_at old slot) refl

  at_parent : row_at new parent.slot ≡ option_map (with_part parent.index (Asked slot)) (row_at old parent.slot)
  at_parent = there mid new parent.slot (with_part parent.index (Asked slot)) only
      ∙ ap (option_map (with_part parent.index (Asked slot))) (mid_other parent.slot apart)

  others : (q : ℕ) → q ≢ slot → q ≢ parent.slot → row_at new q ≡ row_at old q
  others q ne other = elsewhere mid new parent.slot (with_part parent.index (Asked slot)) only q other ∙ mid_other q ne

  pub asks : Asks old new (Some parent) slot task key
  asks q = chosen q slot (row_at new q) (Some child) (cond (q == parent.slot) (option_map (with_part parent.index (Asked slot)) (row_at old q)) (row_at old q))
      (λ e. ap (row_at new) e ∙ at_child)
      (λ ne. chosen q parent.slot (row_at new q) (option_map (with_part parent.index (Asked slot)) (row_at old q)) (row_at old q)
      (λ e. ap (row_at new) e ∙ at_parent ∙ ap (λ s. option_map (with_part parent.index (Asked slot)) (row_at old s)) (sym e))
      (λ other. others q ne other))

  module _ (ready : List ℕ) (t : AreTasks old ready) where
    pub row_there : (row : TaskRow) × (row_at old parent.slot ≡ Some row)
    row_there = value_there (row_at old parent.slot) some

    abbrev waiting : TaskRow
    waiting = with_part parent.index (Asked slot) row_there.0

    within : parent.index < length row_there.0.parts
    within = let three = t.three parent.slot row_there.0 row_there.1 in omega (arith, h, three)

    at_waiting : row_at new parent.slot ≡ Some waiting
    at_waiting = at_parent ∙ ap (option_map (with_part parent.index (Asked slot))) row_there.1

    free : child_of old parent ≡ None
    free = ap (option_and_then asked_slot) idle

    parents : (q : ℕ) → q ≢ slot → parent_of new q ≡ parent_of old q
    parents q ne = elim (cases_eq q parent.slot) [
      | inl e ↦ ap (λ s. parent_of new s) e ∙ ap parent_in at_waiting ∙ ap parent_in (sym row_there.1) ∙ ap (parent_of old) (sym e)
      | inr other ↦ ap parent_in (others q ne other)
    ]

    children : (p : Part) → (p ≡ parent → ⊥) → (p.slot ≡ parent.slot) ⊎ (p.slot ≡ parent.slot → ⊥) → (p.slot ≡ slot) ⊎ (p.slot ≡ slot → ⊥)
        → child_of new p ≡ child_of old p
    children p ne (inl e) _ =
        ap (λ s. child_in p.index (row_at new s)) e ∙ ap (child_in p.index) at_waiting
        ∙ ap asked_slot (part_other row_there.0.parts parent.index (Asked slot) p.index (other_index p parent ne e))
        ∙ ap (child_in p.index) (sym row_there.1) ∙ ap (λ s. child_in p.index (row_at old s)) (sym e)
    children p ne (inr other) (inl e) =
        ap (λ s. child_in p.index (row_at new s)) e ∙ ap (child_in p.index) at_child ∙ fresh_part p.index
        ∙ ap (child_in p.index) (sym (ap (row_at old) e ∙ past_none old slot past))
    children p ne (inr other) (inr past) = ap (child_in p.index) (others p.slot past other)

    pub asked_tasks : (after : List ℕ) → RiseFrom 0 after
        → ((q : ℕ) → is_listed after q ≡ cond (q == slot) true (cond (q == parent.slot) false (is_listed ready q))) → AreTasks new after
    asked_tasks after rising lists = record {
      forest = forest_asked old new slot parent (ap parent_in at_child) parents
          (ap (child_in parent.index) at_waiting ∙ ap asked_slot (part_set row_there.0.parts parent.index (Asked slot) within))
          (λ p ne. children p ne (cases_eq p.slot parent.slot) (cases_eq p.slot slot))
          (ap parent_in (past_none old slot past)) free older h t.forest;
      rising = rising;
      listed = λ q. lists q ∙ sym (chosen q slot (is_ready (row_at new q)) true (cond (q == parent.slot) false (is_listed ready q))
          (λ e. ap is_ready (ap (row_at new) e ∙ at_child))
          (λ ne. chosen q parent.slot (is_ready (row_at new q)) false (is_listed ready q)
          (λ e. ap is_ready (ap (row_at new) e ∙ at_waiting) ∙ asked_waits row_there.0.parts parent.index slot within)
          (λ other. ap is_ready (others q ne other) ∙ sym (t.listed q))));
      three = λ q row e. three_case q row e (cases_eq q slot) (cases_eq q parent.slot);
    }
      where
        three_case : (q : ℕ) (row : TaskRow) → row_at new q ≡ Some row → (q ≡ slot) ⊎ (q ≡ slot → ⊥) → (q ≡ parent.slot) ⊎ (q ≡ parent.slot → ⊥)
            → length row.parts ≡ 3
        three_case q row e (inl is) _ = ap (λ (r : TaskRow). length r.parts) (some_is row row child (sym e ∙ ap (row_at new) is ∙ at_child))
        three_case q row e (inr ne) (inl is) =
            ap (λ (r : TaskRow). length r.parts) (some_is row row waiting (sym e ∙ ap (row_at new) is ∙ at_waiting))
            ∙ parts_length row_there.0.parts parent.index (Asked slot) ∙ t.three parent.slot row_there.0 row_there.1
        three_case q row e (inr ne) (inr other) = t.three q row (sym (others q ne other) ∙ e)

-- ---- a task that settles

module _ (rows : List (Option TaskRow)) (slot : ℕ) (ready left : List ℕ) (t : AreTasks rows ready) (was_ready : is_ready (row_at rows slot) ≡ true)
    (left_is : (q : ℕ) → is_listed left q ≡ cond (q == slot) false (is_listed ready q)) (mid : List (Option TaskRow)) (only : SetsOnly rows mid slot None) where
  gone : row_at mid slot ≡ None
  gone = only slot ∙ chosen_same slot slot None (row_at rows slot) refl

  kept : (q : ℕ) → q ≢ slot → row_at mid q ≡ row_at rows q
  kept q ne = only q ∙ chosen_other q slot None (row_at rows q) ne

  no_child : (p : Part) → p.slot ≡ slot → child_of rows p ≡ None
  no_child p e = ready_is_free rows p (ap (λ s. is_ready (row_at rows s)) e ∙ was_ready)

  left_listed : (q : ℕ) → is_listed left q ≡ is_ready (row_at mid q)
  left_listed q = left_is q ∙ ap (cond (q == slot) false) (t.listed q)
      ∙ sym (chosen q slot (is_ready (row_at mid q)) false (is_ready (row_at rows q))
      (λ e. ap is_ready (ap (row_at mid) e ∙ gone))
      (λ ne. ap is_ready (kept q ne)))

  three_left : (q : ℕ) (row : TaskRow) → row_at mid q ≡ Some row → length row.parts ≡ 3
  three_left q row e = elim (cases_eq q slot) [
    | inl is ↦ absurd (none-some row (sym (ap (row_at mid) is ∙ gone) ∙ e))
    | inr ne ↦ t.three q row (sym (kept q ne) ∙ e)
  ]

  -- a root
  pub settled_root : parent_of rows slot ≡ None → RiseFrom 0 left → AreTasks mid left
  settled_root root rising = record {
    forest = forest_by_links rows mid (λ q. parents q (cases_eq q slot)) (λ p. children p (cases_eq p.slot slot)) t.forest;
    rising = rising;
    listed = left_listed;
    three = three_left;
  }
    where
      parents : (q : ℕ) → (q ≡ slot) ⊎ (q ≡ slot → ⊥) → parent_of mid q ≡ parent_of rows q
      parents q (inl e) = ap parent_in (ap (row_at mid) e ∙ gone) ∙ sym (ap (parent_of rows) e ∙ root)
      parents q (inr ne) = ap parent_in (kept q ne)

      children : (p : Part) → (p.slot ≡ slot) ⊎ (p.slot ≡ slot → ⊥) → child_of mid p ≡ child_of rows p
      children p (inl e) = ap (child_in p.index) (ap (row_at mid) e ∙ gone) ∙ sym (no_child p e)
      children p (inr ne) = ap (child_in p.index) (kept p.slot ne)

  pub root_settles : (value : Value) → parent_of rows slot ≡ None → Settles rows mid slot value
  root_settles value root q = only q ∙ ap (λ p. cond (q == slot) None (given p value q (row_at rows q))) (sym root)

  -- a part, whose row has the value
  module _ (part : Part) (was : parent_of rows slot ≡ Some part) where
    pub other_slot : part.slot ≢ slot
    other_slot e = let older = t.forest.older slot part was in omega (arith, older, e)

    pub part_index : part.index < 3
    part_index = t.forest.index slot part was

    asked_row : (o : Option TaskRow) → child_in part.index o ≡ Some slot
        → (row : TaskRow) × ((o ≡ Some row) × (asked_slot (state_at part.index row) ≡ Some slot))
    asked_row None h = absurd (none-some slot h)
    asked_row (Some row) h = (row, (refl, h))

    pub waiting_row : (row : TaskRow) × ((row_at rows part.slot ≡ Some row) × (asked_slot (state_at part.index row) ≡ Some slot))
    waiting_row = asked_row (row_at rows part.slot) (t.forest.parent slot part was)

    at_mid : row_at mid part.slot ≡ Some waiting_row.0
    at_mid = kept part.slot other_slot ∙ waiting_row.1.0

    pub part_row : IsSome (row_at mid part.slot)
    part_row = subst IsSome (sym at_mid) refl

    -- the row that waited isn't listed
    pub part_waits : is_listed left part.slot ≡ false
    part_waits = left_listed part.slot ∙ ap is_ready (kept part.slot other_slot)
        ∙ (elim (is_ready (row_at rows part.slot)) as (λ b. is_ready (row_at rows part.slot) ≡ b → b ≡ false) [
          | true ↦ λ e. absurd (none-some slot (sym (ready_is_free rows part e) ∙ t.forest.parent slot part was))
          | false ↦ λ e. refl
        ]) refl

    module _ (value : Value) (new : List (Option TaskRow)) (gave : ChangesOnly mid new part.slot (with_part part.index (Got value))) where
      abbrev done : TaskRow
      done = with_part part.index (Got value) waiting_row.0

      pub now_row : row_at new part.slot ≡ Some done
      now_row = there mid new part.slot (with_part part.index (Got value)) gave ∙ ap (option_map (with_part part.index (Got value))) at_mid

      pub now_is_row : IsRow new part.slot
      now_is_row = subst IsSome (sym now_row) refl

      at_slot : row_at new slot ≡ None
      at_slot = elsewhere mid new part.slot (with_part part.index (Got value)) gave slot (λ e. other_slot (sym e)) ∙ gone

      others_left : (q : ℕ) → q ≢ slot → q ≢ part.slot → row_at new q ≡ row_at rows q
      others_left q ne other = elsewhere mid new part.slot (with_part part.index (Got value)) gave q other ∙ kept q ne

      within_parts : part.index < length waiting_row.0.parts
      within_parts = let three = t.three part.slot waiting_row.0 waiting_row.1.0 in let low = part_index in omega (arith, low, three)

      parents_left : (q : ℕ) → q ≢ slot → parent_of new q ≡ parent_of rows q
      parents_left q ne = elim (cases_eq q part.slot) [
        | inl e ↦ ap (λ s. parent_of new s) e ∙ ap parent_in now_row ∙ ap parent_in (sym waiting_row.1.0) ∙ ap (parent_of rows) (sym e)
        | inr other ↦ ap parent_in (others_left q ne other)
      ]

      children_left : (p : Part) → (p ≡ part → ⊥) → (p.slot ≡ part.slot) ⊎ (p.slot ≡ part.slot → ⊥) → (p.slot ≡ slot) ⊎ (p.slot ≡ slot → ⊥)
          → child_of new p ≡ child_of rows p
      children_left p ne (inl e) _ =
          ap (λ s. child_in p.index (row_at new s)) e ∙ ap (child_in p.index) now_row
          ∙ ap asked_slot (part_other waiting_row.0.parts part.index (Got value) p.index (other_index p part ne e))
          ∙ ap (child_in p.index) (sym waiting_row.1.0) ∙ ap (λ s. child_in p.index (row_at rows s)) (sym e)
      children_left p ne (inr other) (inl e) = ap (child_in p.index) (ap (row_at new) e ∙ at_slot) ∙ sym (no_child p e)
      children_left p ne (inr other) (inr past) = ap (child_in p.index) (others_left p.slot past other)

      pub settled_part : (after : List ℕ) → RiseFrom 0 after
          → ((q : ℕ) → is_listed after q ≡ cond (q == part.slot) (is_ready (row_at new part.slot)) (is_listed left q)) → AreTasks new after
      settled_part after rising added = record {
        forest = forest_settled rows new slot part was (ap parent_in at_slot) parents_left
            (ap (child_in part.index) now_row ∙ ap asked_slot (part_set waiting_row.0.parts part.index (Got value) within_parts))
            (λ p ne. children_left p ne (cases_eq p.slot part.slot) (cases_eq p.slot slot))
            t.forest;
        rising = rising;
        listed = λ q. added q ∙ sym (chosen q part.slot (is_ready (row_at new q)) (is_ready (row_at new part.slot)) (is_listed left q)
            (λ e. ap (λ s. is_ready (row_at new s)) e)
            (λ other. ap is_ready (elsewhere mid new part.slot (with_part part.index (Got value)) gave q other) ∙ sym (left_listed q)));
        three = λ q row e. elim (cases_eq q part.slot) [
          | inl is ↦ ap (λ (r : TaskRow). length r.parts) (some_is row row done (sym e ∙ ap (row_at new) is ∙ now_row))
              ∙ parts_length waiting_row.0.parts part.index (Got value) ∙ t.three part.slot waiting_row.0 waiting_row.1.0
          | inr other ↦ three_left q row (sym (elsewhere mid new part.slot (with_part part.index (Got value)) gave q other) ∙ e)
        ];
      }

      -- a row that waits on isn't listed either
      pub not_added : is_ready (row_at new part.slot) ≡ false → (q : ℕ)
          → is_listed left q ≡ cond (q == part.slot) (is_ready (row_at new part.slot)) (is_listed left q)
      not_added waits q = chosen q part.slot (is_listed left q) (is_ready (row_at new part.slot)) (is_listed left q)
          (λ e. ap (is_listed left) e ∙ part_waits ∙ sym waits)
          (λ _. refl)
