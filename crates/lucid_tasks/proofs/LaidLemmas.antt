-- Rows as they lie in memory, after a change of one of them.
use Rattle.lucid_tasks.proofs.Common.{◌≡◌, ◌≢◌, ℕ, zero, suc, ◌+◌, ◌-◌, ◌*◌, ◌^◌, ◌<◌, ◌≤◌, ◌==◌, ◌&&◌, true, false, cond, List, [], ◌∷◌, ◌++◌, length, get_or, set, Option, Some, None, IsSome, IfSome, ◌⊎◌, inl, inr, refl, sym, ap, subst, ◌∙◌, arith, true≢false, option_map, option_and_then, list_all, none-some, cases_eq, above_differs, Value, Part, Task, Key, Row, value_at, SetsOne, PartState, Idle, Asked, Got, TaskRow, row_at, state_at, got_of, got_value, emptied, taken, fresh, with_part, all_idle, is_free, is_ready, IsRow, SetsOnly, ChangesOnly, Values, part_number, laid_from, Trims, slice_get_within}
use Rattle.std.specs.Prelude.{slice_get}
use Rattle.std.proofs.lemmas.List.{length_push, length-set}
use Rattle.lucid_lists.proofs.Lists.{slice_get-push_same, slice_get-push_other}
use Rattle.lucid_tasks.specs.Rows.{start}
use Rattle.lucid_tasks.specs.Laid.{named, state, laid_state, three_of, laid_parent, laid_key, laid, laid_row, HasIdle, AreLaid, live_at, Shows}
use Rattle.lucid_tasks.proofs.Cases.{chosen, chosen_same, chosen_other, some_is}

-- ---- lists of three

pub three_at : (f : ℕ → PartState) (k : ℕ) → k < 3 → get_or (three_of f) k Idle ≡ f k
three_at f (suc (suc (suc k))) h = absurd (omega (arith, h))
three_at f _ h = refl

three_same : (f g : ℕ → PartState) → ((k : ℕ) → k < 3 → g k ≡ f k) → three_of g ≡ three_of f
three_same f g e =
    let zeroth = e 0 (omega arith) in
    let first = e 1 (omega arith) in
    let second = e 2 (omega arith) in λ i. zeroth i ∷ first i ∷ second i ∷ []

pub three_set : (f g : ℕ → PartState) (index : ℕ) (s : PartState) → index < 3 → g index ≡ s → ((k : ℕ) → k < 3 → k ≢ index → g k ≡ f k)
    → three_of g ≡ set (three_of f) index s
three_set f g zero s h is e =
    let first = e 1 (omega arith) (λ x. omega (arith, x)) in
    let second = e 2 (omega arith) (λ x. omega (arith, x)) in λ i. is i ∷ first i ∷ second i ∷ []
three_set f g (suc zero) s h is e =
    let zeroth = e 0 (omega arith) (λ x. omega (arith, x)) in
    let second = e 2 (omega arith) (λ x. omega (arith, x)) in λ i. zeroth i ∷ is i ∷ second i ∷ []
three_set f g (suc (suc zero)) s h is e =
    let zeroth = e 0 (omega arith) (λ x. omega (arith, x)) in
    let first = e 1 (omega arith) (λ x. omega (arith, x)) in λ i. zeroth i ∷ first i ∷ is i ∷ []
three_set f g (suc (suc (suc k))) s h is e = absurd (omega (arith, h))

pub word_set : (asked : List ℕ) (i w : ℕ) → i < length asked → get_or (set asked i w) i 0 ≡ w
word_set [] i w h = absurd (omega (arith, h))
word_set (a ∷ asked) zero w h = refl
word_set (a ∷ asked) (suc i) w h = word_set asked i w (omega (arith, h))

pub word_other : (asked : List ℕ) (i w k : ℕ) → k ≢ i → get_or (set asked i w) k 0 ≡ get_or asked k 0
word_other [] i w k ne = refl
word_other (a ∷ asked) zero w zero ne = absurd (ne refl)
word_other (a ∷ asked) zero w (suc k) ne = refl
word_other (a ∷ asked) (suc i) w zero ne = refl
word_other (a ∷ asked) (suc i) w (suc k) ne = word_other asked i w k (λ e. ne (ap suc e))

pub words_length : (asked : List ℕ) (i w : ℕ) → length (set asked i w) ≡ length asked
words_length [] i w = refl
words_length (a ∷ asked) zero w = refl
words_length (a ∷ asked) (suc i) w = ap suc (words_length asked i w)

-- ---- rows in a list

pub get_set : {X : Type 0} (rows : List X) (q : ℕ) (row : X) → q < length rows → slice_get (set rows q row) q ≡ Some row
get_set [] q row h = absurd (omega (arith, h))
get_set (r ∷ rows) zero row h = refl
get_set (r ∷ rows) (suc q) row h = get_set rows q row (omega (arith, h))

pub get_set_other : {X : Type 0} (rows : List X) (slot : ℕ) (row : X) (q : ℕ) → q ≢ slot → slice_get (set rows slot row) q ≡ slice_get rows q
get_set_other [] slot row q ne = refl
get_set_other (r ∷ rows) zero row zero ne = absurd (ne refl)
get_set_other (r ∷ rows) zero row (suc q) ne = refl
get_set_other (r ∷ rows) (suc slot) row zero ne = refl
get_set_other (r ∷ rows) (suc slot) row (suc q) ne = get_set_other rows slot row q (λ e. ne (ap suc e))

get_past : {X : Type 0} (rows : List X) → slice_get rows (length rows) ≡ None
get_past [] = refl
get_past (r ∷ rows) = get_past rows

-- ---- numbers of parts

pub other_slot : (q k slot i : ℕ) → q ≢ slot → k < 3 → i < 3 → part_number q k ≡ part_number slot i → ⊥
other_slot q k slot i ne h l e = ne (omega (arith, h, l, e))

pub other_part : (slot k i : ℕ) → k ≢ i → k < 3 → i < 3 → part_number slot k ≡ part_number slot i → ⊥
other_part slot k i ne h l e = ne (omega (arith, h, l, e))

-- ---- the row of a slot

module _ (values : List (ℕ × Value)) where
  at_from : (slot : ℕ) (rows : List Row) (q : ℕ) → row_at (laid_from values slot rows) q ≡ option_and_then (laid_row values (slot + q)) (slice_get rows q)
  at_from slot [] q = refl
  at_from slot (r ∷ rows) zero = let e : slot ≡ slot + 0 = omega arith in ap (λ n. laid_row values n r) e
  at_from slot (r ∷ rows) (suc q) = let e : suc slot + q ≡ slot + suc q = omega arith in
      at_from (suc slot) rows q ∙ ap (λ n. option_and_then (laid_row values n) (slice_get rows q)) e

  pub at : (rows : List Row) (q : ℕ) → row_at (laid_from values 0 rows) q ≡ option_and_then (laid_row values q) (slice_get rows q)
  at rows q = let e : 0 + q ≡ q = omega arith in at_from 0 rows q ∙ ap (λ n. option_and_then (laid_row values n) (slice_get rows q)) e

  by_live : (q : ℕ) (o : Option Row) → option_and_then (laid_row values q) o ≡ option_map (laid values q)
      (option_and_then (λ (row : Row). cond row.live (Some row) None) o)
  by_live q None = refl
  by_live q (Some row) = (elim row.live as (λ b. cond b (Some (laid values q row)) None ≡ option_map (laid values q) (cond b (Some row) None))
      [ true ↦ refl | false ↦ refl ])

  pub at_live : (rows : List Row) (q : ℕ) → row_at (laid_from values 0 rows) q ≡ option_map (laid values q) (live_at rows q)
  at_live rows q = at rows q ∙ by_live q (slice_get rows q)

  living : (q : ℕ) (o : Option Row) → IsSome (option_and_then (laid_row values q) o) → (row : Row) × ((o ≡ Some row) × (row.live ≡ true))
  living q None h = absurd (true≢false (sym h))
  living q (Some row) h = (
    row,
    (
      refl,
      (elim row.live as (λ b. IsSome (cond b (Some (laid values q row)) None) → b ≡ true)
          [ true ↦ λ _. refl | false ↦ λ h. absurd (true≢false (sym h)) ]) h,
    ),
  )

  pub the_live : (rows : List Row) (q : ℕ) → IsRow (laid_from values 0 rows) q → (row : Row) × ((slice_get rows q ≡ Some row) × (row.live ≡ true))
  the_live rows q h = living q (slice_get rows q) (subst IsSome (at rows q) h)

  pub row_in_range : (rows : List Row) (q : ℕ) → IsRow (laid_from values 0 rows) q → q < length rows
  row_in_range rows q h = let r = the_live rows q h in slice_get_within rows q r.0 r.1.0

  pub shown_is : (rows : List Row) (q : ℕ) (row : Row) → slice_get rows q ≡ Some row → row.live ≡ true
      → row_at (laid_from values 0 rows) q ≡ Some (laid values q row)
  shown_is rows q row e live = at rows q ∙ ap (option_and_then (laid_row values q)) e ∙ ap (λ b. cond b (Some (laid values q row)) None) live

-- the row of another slot, with the same values of its parts
same_row : (values after : List (ℕ × Value)) (q : ℕ) (o : Option Row) → ((k : ℕ) → k < 3 → value_at after (part_number q k) ≡ value_at values (part_number q k))
    → option_and_then (laid_row after q) o ≡ option_and_then (laid_row values q) o
same_row values after q None e = refl
same_row values after q (Some r) e =
    let parts = three_same (laid_state values q r) (laid_state after q r) (λ k h. ap (state (named (get_or r.asked k 0))) (e k h)) in
    ap (λ (ps : List PartState). cond r.live (Some (record { task = r.task; parent = laid_parent r; cursor = r.cursor; key = laid_key r; parts = ps })) None)
    parts

live_back : (o : Option Row) (row : Row) → option_and_then (λ (r : Row). cond r.live (Some r) None) o ≡ Some row → (o ≡ Some row) × (row.live ≡ true)
live_back None row e = absurd (none-some row e)
live_back (Some r) row e = (elim r.live as (λ b. r.live ≡ b → cond b (Some r) None ≡ Some row → (Some r ≡ Some row) × (row.live ≡ true)) [
  | true ↦ λ t e. (e, ap (λ (x : Row). x.live) (sym (some_is r r row e)) ∙ t)
  | false ↦ λ t e. absurd (none-some row e)
]) refl e

live_from : (o : Option Row) (row : Row) → o ≡ Some row → row.live ≡ true → option_and_then (λ (r : Row). cond r.live (Some r) None) o ≡ Some row
live_from o row e live = ap (option_and_then (λ (r : Row). cond r.live (Some r) None)) e ∙ ap (λ b. cond b (Some row) None) live

-- ---- what a value of a part says

module _ (rows : List Row) (values : Values) (l : AreLaid rows values) (slot : ℕ) (row : Row) (at_slot : slice_get rows slot ≡ Some row)
    (live : row.live ≡ true) where
  idle_word : (i : ℕ) → i < 3 → IsSome (value_at values.0 (part_number slot i)) → get_or row.asked i 0 ≡ 0
  idle_word i h some =
      let has = l.owned slot i h some in
      let same : has.0 ≡ row = some_is row has.0 row (sym has.1.0 ∙ at_slot) in
      ap (λ (r : Row). get_or r.asked i 0) (sym same) ∙ has.1.1.1

  got_by : (i : ℕ) → i < 3 → (a : ℕ) → get_or row.asked i 0 ≡ a → (o : Option Value) → value_at values.0 (part_number slot i) ≡ o
      → got_value (state (named a) o) ≡ o
  got_by i h zero e None v = refl
  got_by i h zero e (Some x) v = refl
  got_by i h (suc a) e None v = refl
  got_by i h (suc a) e (Some x) v =
      let word = idle_word i h (subst IsSome (sym v) refl) in
      let wrong : suc a ≡ 0 = sym e ∙ word in absurd (omega (arith, wrong))

  pub got_is : (i : ℕ) → i < 3 → got_of (laid_from values.0 0 rows) (record { slot = slot; index = i }) ≡ value_at values.0 (part_number slot i)
  got_is i h =
      ap (λ o. option_and_then got_value (option_map (state_at i) o)) (shown_is values.0 rows slot row at_slot live)
      ∙ ap got_value (three_at (laid_state values.0 slot row) i h)
      ∙ got_by i h (get_or row.asked i 0) refl (value_at values.0 (part_number slot i)) refl

-- the value of a part by the row's slot
pub got_at : (rows : List Row) (values : Values) → AreLaid rows values → (slot i : ℕ) → IsRow (laid_from values.0 0 rows) slot → i < 3
    → got_of (laid_from values.0 0 rows) (record { slot = slot; index = i }) ≡ value_at values.0 (part_number slot i)
got_at rows values l slot i some h = let r = the_live values.0 rows slot some in got_is rows values l slot r.0 r.1.0 r.1.1 i h

-- ---- a row that changes, and stays alive

module _ (rows new : List Row) (values after : Values) (l : AreLaid rows values) (slot : ℕ) (row changed : Row)
    (at_slot : slice_get rows slot ≡ Some row) (live : row.live ≡ true) (new_at : slice_get new slot ≡ Some changed) (still : changed.live ≡ true)
    (new_other : (q : ℕ) → q ≢ slot → slice_get new q ≡ slice_get rows q) (new_length : length new ≡ length rows)
    (same : (q k : ℕ) → q ≢ slot → k < 3 → value_at after.0 (part_number q k) ≡ value_at values.0 (part_number q k)) where
  pub changes : (change : TaskRow → TaskRow) → laid after.0 slot changed ≡ change (laid values.0 slot row)
      → ChangesOnly (laid_from values.0 0 rows) (laid_from after.0 0 new) slot change
  changes change is q = chosen q slot (row_at (laid_from after.0 0 new) q) (option_map change (row_at (laid_from values.0 0 rows) q))
      (row_at (laid_from values.0 0 rows) q)
      (λ e. ap (row_at (laid_from after.0 0 new)) e ∙ shown_is after.0 new slot changed new_at still ∙ ap Some is
      ∙ ap (option_map change) (sym (shown_is values.0 rows slot row at_slot live))
      ∙ ap (λ p. option_map change (row_at (laid_from values.0 0 rows) p)) (sym e))
      (λ ne. at after.0 new q ∙ ap (option_and_then (laid_row after.0 q)) (new_other q ne)
      ∙ same_row values.0 after.0 q (slice_get rows q) (λ k h. same q k ne h) ∙ sym (at values.0 rows q))

  pub stays_laid : length changed.asked ≡ 3 → values.1 ≤ after.1
      → ((i : ℕ) → i < 3 → IsSome (value_at after.0 (part_number slot i)) → get_or changed.asked i 0 ≡ 0) → AreLaid new after
  stays_laid three room keep = record {
    owned = λ s i h some. owned_case s i h some (cases_eq s slot);
    three = λ s r e. three_case s r e (cases_eq s slot);
    room = let had = l.room in omega (arith, had, room, new_length);
    words = subst (λ n. n < 2 ^ 32) (sym new_length) l.words;
  }
    where
      owned_case : (s i : ℕ) → i < 3 → IsSome (value_at after.0 (part_number s i)) → (s ≡ slot) ⊎ (s ≡ slot → ⊥) → HasIdle new s i
      owned_case s i h some (inl e) =
          (changed, (ap (slice_get new) e ∙ new_at, (still, keep i h (subst (λ n. IsSome (value_at after.0 (part_number n i))) e some))))
      owned_case s i h some (inr ne) = let had = l.owned s i h (subst IsSome (same s i ne h) some) in (had.0, (new_other s ne ∙ had.1.0, had.1.1))

      three_case : (s : ℕ) (r : Row) → slice_get new s ≡ Some r → (s ≡ slot) ⊎ (s ≡ slot → ⊥) → length r.asked ≡ 3
      three_case s r e (inl is) = ap (λ (x : Row). length x.asked) (some_is r r changed (sym e ∙ ap (slice_get new) is ∙ new_at)) ∙ three
      three_case s r e (inr ne) = l.three s r (sym (new_other s ne) ∙ e)

-- ---- the values of other parts, where one was set

module _ (values after : List (ℕ × Value)) (slot i : ℕ) (h : i < 3) (o : Option Value)
    (sets : SetsOne (value_at values) (value_at after) (part_number slot i) o) where
  pub set_here : value_at after (part_number slot i) ≡ o
  set_here = sets (part_number slot i) ∙ chosen_same (part_number slot i) (part_number slot i) o (value_at values (part_number slot i)) refl

  pub set_elsewhere : (q k : ℕ) → q ≢ slot → k < 3 → value_at after (part_number q k) ≡ value_at values (part_number q k)
  set_elsewhere q k ne l = sets (part_number q k)
      ∙ chosen_other (part_number q k) (part_number slot i) o (value_at values (part_number q k)) (other_slot q k slot i ne l h)

  pub set_beside : (k : ℕ) → k ≢ i → k < 3 → value_at after (part_number slot k) ≡ value_at values (part_number slot k)
  set_beside k ne l = sets (part_number slot k) ∙ chosen_other (part_number slot k) (part_number slot i) o (value_at values (part_number slot k))
      (other_part slot k i ne l h)

-- ---- a part of a row

module _ (rows : List Row) (values : Values) (l : AreLaid rows values) (slot i : ℕ) (row : Row) (at_slot : slice_get rows slot ≡ Some row)
    (live : row.live ≡ true) (h : i < 3) where
  in_range : slot < length rows
  in_range = slice_get_within rows slot row at_slot

  three : length row.asked ≡ 3
  three = l.three slot row at_slot

  within : i < length row.asked
  within = let all = three in omega (arith, h, all)

  -- a task is asked for it
  module _ (child word : ℕ) (names : named word ≡ Some child) (empty : value_at values.0 (part_number slot i) ≡ None) where
    abbrev pub asks : Row
    asks = record row { asked = set row.asked i word }

    pub asked_changes : ChangesOnly (laid_from values.0 0 rows) (laid_from values.0 0 (set rows slot asks)) slot (with_part i (Asked child))
    asked_changes = changes rows (set rows slot asks) values values l slot row asks at_slot live (get_set rows slot asks in_range) live
        (λ q ne. get_set_other rows slot asks q ne) (length-set rows slot asks) (λ q k ne m. refl) (with_part i (Asked child))
        (ap (λ (ps : List PartState). laid_parts ps) (three_set (laid_state values.0 slot row) (laid_state values.0 slot asks) i (Asked child) h
        (ap (λ w. state (named w) (value_at values.0 (part_number slot i))) (word_set row.asked i word within)
        ∙ ap (λ o. state o (value_at values.0 (part_number slot i))) names)
        (λ k m ne. ap (λ w. state (named w) (value_at values.0 (part_number slot k))) (word_other row.asked i word k ne))))
      where
        laid_parts : List PartState → TaskRow
        laid_parts ps = record { task = row.task; parent = laid_parent row; cursor = row.cursor; key = laid_key row; parts = ps }

    pub asked_laid : AreLaid (set rows slot asks) values
    asked_laid = stays_laid rows (set rows slot asks) values values l slot row asks at_slot live (get_set rows slot asks in_range) live
        (λ q ne. get_set_other rows slot asks q ne) (length-set rows slot asks) (λ q k ne m. refl)
        (words_length row.asked i word ∙ three) (omega arith) keep
      where
        keep : (k : ℕ) → k < 3 → IsSome (value_at values.0 (part_number slot k)) → get_or (set row.asked i word) k 0 ≡ 0
        keep k m some = elim (cases_eq k i) [
          | inl e ↦ absurd (true≢false (sym (subst IsSome (ap (λ n. value_at values.0 (part_number slot n)) e ∙ empty) some)))
          | inr ne ↦ word_other row.asked i word k ne ∙ idle_word rows values l slot row at_slot live k m some
        ]

  -- it is given a value
  module _ (after : Values) (v : Value) (sets : SetsOne (value_at values.0) (value_at after.0) (part_number slot i) (Some v)) (room : values.1 ≤ after.1) where
    abbrev pub gets : Row
    gets = record row { asked = set row.asked i 0 }

    pub given_changes : ChangesOnly (laid_from values.0 0 rows) (laid_from after.0 0 (set rows slot gets)) slot (with_part i (Got v))
    given_changes = changes rows (set rows slot gets) values after l slot row gets at_slot live (get_set rows slot gets in_range) live
        (λ q ne. get_set_other rows slot gets q ne) (length-set rows slot gets) (set_elsewhere values.0 after.0 slot i h (Some v) sets) (with_part i (Got v))
        (ap (λ (ps : List PartState). laid_parts ps) (three_set (laid_state values.0 slot row) (laid_state after.0 slot gets) i (Got v) h
        (ap (λ w. state (named w) (value_at after.0 (part_number slot i))) (word_set row.asked i 0 within)
        ∙ ap (state None) (set_here values.0 after.0 slot i h (Some v) sets))
        (λ k m ne. ap (λ w. state (named w) (value_at after.0 (part_number slot k))) (word_other row.asked i 0 k ne)
        ∙ ap (state (named (get_or row.asked k 0))) (set_beside values.0 after.0 slot i h (Some v) sets k ne m))))
      where
        laid_parts : List PartState → TaskRow
        laid_parts ps = record { task = row.task; parent = laid_parent row; cursor = row.cursor; key = laid_key row; parts = ps }

    pub given_laid : AreLaid (set rows slot gets) after
    given_laid = stays_laid rows (set rows slot gets) values after l slot row gets at_slot live (get_set rows slot gets in_range) live
        (λ q ne. get_set_other rows slot gets q ne) (length-set rows slot gets) (set_elsewhere values.0 after.0 slot i h (Some v) sets)
        (words_length row.asked i 0 ∙ three) room keep
      where
        keep : (k : ℕ) → k < 3 → IsSome (value_at after.0 (part_number slot k)) → get_or (set row.asked i 0) k 0 ≡ 0
        keep k m some = elim (cases_eq k i) [
          | inl e ↦ ap (λ n. get_or (set row.asked i 0) n 0) e ∙ word_set row.asked i 0 within
          | inr ne ↦ word_other row.asked i 0 k ne ∙ idle_word rows values l slot row at_slot live k m
              (subst IsSome (set_beside values.0 after.0 slot i h (Some v) sets k ne m) some)
        ]

  -- its value is taken out
  module _ (after : Values) (sets : SetsOne (value_at values.0) (value_at after.0) (part_number slot i) None) (room : values.1 ≤ after.1) where
    emptied_is : (a : Option ℕ) (o : Option Value) → state a None ≡ emptied (state a o)
    emptied_is None None = refl
    emptied_is None (Some x) = refl
    emptied_is (Some s) o = refl

    pub taken_changes : ChangesOnly (laid_from values.0 0 rows) (laid_from after.0 0 rows) slot (taken i)
    taken_changes = changes rows rows values after l slot row row at_slot live at_slot live (λ q ne. refl) refl
        (set_elsewhere values.0 after.0 slot i h None sets) (taken i)
        (ap (λ (ps : List PartState). laid_parts ps) (three_set (laid_state values.0 slot row) (laid_state after.0 slot row) i
        (emptied (get_or (three_of (laid_state values.0 slot row)) i Idle)) h
        (ap (state (named (get_or row.asked i 0))) (set_here values.0 after.0 slot i h None sets)
        ∙ emptied_is (named (get_or row.asked i 0)) (value_at values.0 (part_number slot i))
        ∙ ap emptied (sym (three_at (laid_state values.0 slot row) i h)))
        (λ k m ne. ap (state (named (get_or row.asked k 0))) (set_beside values.0 after.0 slot i h None sets k ne m))))
      where
        laid_parts : List PartState → TaskRow
        laid_parts ps = record { task = row.task; parent = laid_parent row; cursor = row.cursor; key = laid_key row; parts = ps }

    pub taken_laid : AreLaid rows after
    taken_laid = stays_laid rows rows values after l slot row row at_slot live at_slot live (λ q ne. refl) refl
        (set_elsewhere values.0 after.0 slot i h None sets) three room keep
      where
        keep : (k : ℕ) → k < 3 → IsSome (value_at after.0 (part_number slot k)) → get_or row.asked k 0 ≡ 0
        keep k m some = elim (cases_eq k i) [
          | inl e ↦ absurd
              (true≢false (sym (subst IsSome (ap (λ n. value_at after.0 (part_number slot n)) e ∙ set_here values.0 after.0 slot i h None sets) some)))
          | inr ne ↦ idle_word rows values l slot row at_slot live k m (subst IsSome (set_beside values.0 after.0 slot i h None sets k ne m) some)
        ]

-- ---- a row with other words, and the same parts

module _ (rows : List Row) (values : Values) (l : AreLaid rows values) (slot : ℕ) (row changed : Row) (at_slot : slice_get rows slot ≡ Some row)
    (live : row.live ≡ true)
    (still : changed.live ≡ row.live) (words : changed.asked ≡ row.asked) where
  pub words_changes : (change : TaskRow → TaskRow) → laid values.0 slot changed ≡ change (laid values.0 slot row)
      → ChangesOnly (laid_from values.0 0 rows) (laid_from values.0 0 (set rows slot changed)) slot change
  words_changes change is = changes rows (set rows slot changed) values values l slot row changed at_slot live
      (get_set rows slot changed (slice_get_within rows slot row at_slot)) (still ∙ live)
      (λ q ne. get_set_other rows slot changed q ne) (length-set rows slot changed) (λ q k ne m. refl) change is

  pub words_laid : AreLaid (set rows slot changed) values
  words_laid = stays_laid rows (set rows slot changed) values values l slot row changed at_slot live
      (get_set rows slot changed (slice_get_within rows slot row at_slot)) (still ∙ live)
      (λ q ne. get_set_other rows slot changed q ne) (length-set rows slot changed) (λ q k ne m. refl)
      (ap length words ∙ l.three slot row at_slot) (omega arith)
      (λ k m some. ap (λ (asked : List ℕ). get_or asked k 0) words ∙ idle_word rows values l slot row at_slot live k m some)

-- ---- a new row

module _ (rows : List Row) (values after : Values) (l : AreLaid rows values) (same_values : after.0 ≡ values.0) (row : Row) (live : row.live ≡ true)
    (asked : row.asked ≡ 0 ∷ 0 ∷ 0 ∷ []) where
  no_value : (k : ℕ) → k < 3 → (o : Option Value) → value_at values.0 (part_number (length rows) k) ≡ o → o ≡ None
  no_value k h None e = refl
  no_value k h (Some v) e = let has = l.owned (length rows) k h (subst IsSome (sym e) refl) in absurd (none-some has.0 (sym (get_past rows) ∙ has.1.0))

  abbrev no_words : List ℕ
  no_words = 0 ∷ 0 ∷ 0 ∷ []

  idle_at : (k : ℕ) → k < 3 → get_or no_words k 0 ≡ 0
  idle_at (suc (suc (suc k))) h = absurd (omega (arith, h))
  idle_at _ h = refl

  idle_state : (k : ℕ) → k < 3 → laid_state values.0 (length rows) row k ≡ Idle
  idle_state k h =
      ap (λ w. state (named w) (value_at values.0 (part_number (length rows) k))) (ap (λ (words : List ℕ). get_or words k 0) asked ∙ idle_at k h)
      ∙ ap (state None) (no_value k h (value_at values.0 (part_number (length rows) k)) refl)

  pub added : (task : Task) (parent : Option Part) (key : Option Key) → row.task ≡ task → laid_parent row ≡ parent → row.cursor ≡ start → laid_key row ≡ key
      → SetsOnly (laid_from values.0 0 rows) (laid_from after.0 0 (rows ++ row ∷ [])) (length rows) (Some (fresh task parent key))
  added task parent key task_is parent_is cursor_is key_is q =
      subst (λ vs. row_at (laid_from vs 0 (rows ++ row ∷ [])) q ≡ cond (q == length rows) (Some (fresh task parent key)) (row_at (laid_from values.0 0 rows) q))
      (sym same_values)
      (chosen q (length rows) (row_at (laid_from values.0 0 (rows ++ row ∷ [])) q) (Some (fresh task parent key)) (row_at (laid_from values.0 0 rows) q)
      (λ e. ap (row_at (laid_from values.0 0 (rows ++ row ∷ []))) e ∙ shown_is values.0 (rows ++ row ∷ []) (length rows) row (slice_get-push_same rows row) live
      ∙ ap Some new_is)
      (λ ne. at values.0 (rows ++ row ∷ []) q ∙ ap (option_and_then (laid_row values.0 q)) (slice_get-push_other rows row q ne) ∙ sym (at values.0 rows q)))
    where
      parts_are : three_of (laid_state values.0 (length rows) row) ≡ all_idle
      parts_are = three_same (λ _. Idle) (laid_state values.0 (length rows) row) idle_state

      new_is : laid values.0 (length rows) row ≡ fresh task parent key
      new_is = λ i. record { task = task_is i; parent = parent_is i; cursor = cursor_is i; key = key_is i; parts = parts_are i }

  pub added_laid : 3 * length rows + 3 ≤ after.1 → length rows + 1 < 2 ^ 32 → AreLaid (rows ++ row ∷ []) after
  added_laid room small = record {
    owned = λ s i h some. owned_case s i h (subst (λ vs. IsSome (value_at vs (part_number s i))) same_values some) (cases_eq s (length rows));
    three = λ s r e. three_case s r e (cases_eq s (length rows));
    room = let len = length_push rows row in omega (arith, room, len);
    words = subst (λ n. n < 2 ^ 32) (sym (length_push rows row)) small;
  }
    where
      owned_case : (s i : ℕ) → i < 3 → IsSome (value_at values.0 (part_number s i)) → (s ≡ length rows) ⊎ (s ≡ length rows → ⊥) → HasIdle (rows ++ row ∷ []) s i
      owned_case s i h some (inl e) =
          absurd
          (true≢false
          (sym (subst IsSome (ap (λ n. value_at values.0 (part_number n i)) e ∙ no_value i h (value_at values.0 (part_number (length rows) i)) refl) some)))
      owned_case s i h some (inr ne) = let had = l.owned s i h some in (had.0, (slice_get-push_other rows row s ne ∙ had.1.0, had.1.1))

      three_case : (s : ℕ) (r : Row) → slice_get (rows ++ row ∷ []) s ≡ Some r → (s ≡ length rows) ⊎ (s ≡ length rows → ⊥) → length r.asked ≡ 3
      three_case s r e (inl is) =
          ap (λ (x : Row). length x.asked) (some_is r r row (sym e ∙ ap (slice_get (rows ++ row ∷ [])) is ∙ slice_get-push_same rows row)) ∙ ap length asked
      three_case s r e (inr ne) = l.three s r (sym (slice_get-push_other rows row s ne) ∙ e)

-- ---- a row that ends

module _ (rows new : List Row) (values : Values) (l : AreLaid rows values) (slot : ℕ) (row ended : Row) (at_slot : slice_get rows slot ≡ Some row)
    (live : row.live ≡ true)
    (dead : ended.live ≡ false) (words : ended.asked ≡ row.asked)
    (empty : (k : ℕ) → k < 3 → value_at values.0 (part_number slot k) ≡ None) (trims : Trims (set rows slot ended) new) where
  in_rows : slot < length rows
  in_rows = slice_get_within rows slot row at_slot

  pub ends : SetsOnly (laid_from values.0 0 rows) (laid_from values.0 0 new) slot None
  ends q = at_live values.0 new q ∙ ap (option_map (laid values.0 q)) (trims.live q)
      ∙ chosen q slot (option_map (laid values.0 q) (live_at (set rows slot ended) q)) None (row_at (laid_from values.0 0 rows) q)
      (λ e. ap (λ p. option_map (laid values.0 q) (live_at (set rows slot ended) p)) e
      ∙ ap (λ o. option_map (laid values.0 q) (option_and_then (λ (r : Row). cond r.live (Some r) None) o)) (get_set rows slot ended in_rows)
      ∙ ap (λ b. option_map (laid values.0 q) (cond b (Some ended) None)) dead)
      (λ ne. ap (λ o. option_map (laid values.0 q) (option_and_then (λ (r : Row). cond r.live (Some r) None) o)) (get_set_other rows slot ended q ne)
      ∙ sym (at_live values.0 rows q))

  pub ended_laid : AreLaid new values
  ended_laid = record {
    owned = λ s i h some. owned_case s i h some (cases_eq s slot);
    three = λ s r e. three_case s r (trims.same s r e) (cases_eq s slot);
    room = let had = l.room in let less = trims.shorter in let len = length-set rows slot ended in omega (arith, had, less, len);
    words = shorter l.words;
  }
    where
      shorter : length rows < 2 ^ 32 → length new < 2 ^ 32
      shorter h = let less = trims.shorter in let len = length-set rows slot ended in omega (arith, h, less, len)

      owned_case : (s i : ℕ) → i < 3 → IsSome (value_at values.0 (part_number s i)) → (s ≡ slot) ⊎ (s ≡ slot → ⊥) → HasIdle new s i
      owned_case s i h some (inl e) = absurd (true≢false (sym (subst IsSome (ap (λ n. value_at values.0 (part_number n i)) e ∙ empty i h) some)))
      owned_case s i h some (inr ne) =
          let had = l.owned s i h some in
          let lives = trims.live s ∙ live_from (slice_get (set rows slot ended) s) had.0 (get_set_other rows slot ended s ne ∙ had.1.0) had.1.1.0 in
          (had.0, ((live_back (slice_get new s) had.0 lives).0, had.1.1))

      three_case : (s : ℕ) (r : Row) → slice_get (set rows slot ended) s ≡ Some r → (s ≡ slot) ⊎ (s ≡ slot → ⊥) → length r.asked ≡ 3
      three_case s r e (inl is) =
          ap (λ (x : Row). length x.asked) (some_is r r ended (sym e ∙ ap (slice_get (set rows slot ended)) is ∙ get_set rows slot ended in_rows))
          ∙ ap length words ∙ l.three slot row at_slot
      three_case s r e (inr ne) = l.three s r (sym (get_set_other rows slot ended s ne) ∙ e)

-- ---- a row that is read

free_word : (a : ℕ) (o : Option Value) → is_free (state (named a) o) ≡ (a == 0)
free_word zero None = refl
free_word zero (Some v) = refl
free_word (suc a) o = sym (above_differs (suc a) 0 (omega arith))

ready_words : (asked : List ℕ) (f : ℕ → Option Value) → length asked ≡ 3
    → list_all is_free (three_of (λ k. state (named (get_or asked k 0)) (f k))) ≡ list_all (λ word. word == 0) asked
ready_words (a ∷ b ∷ c ∷ []) f h =
    let zeroth = free_word a (f 0) in
    let first = free_word b (f 1) in
    let second = free_word c (f 2) in λ i. zeroth i && (first i && (second i && true))
ready_words _ f h = absurd (omega (arith, h))

at_of : (rows : List Row) (slot : ℕ) (x : Row) → slot < length rows → x ≡ get_or rows slot x → slice_get rows slot ≡ Some x
at_of [] slot x h is = absurd (omega (arith, h))
at_of (r ∷ rows) zero x h is = ap Some (sym is)
at_of (r ∷ rows) (suc slot) x h is = at_of rows slot x (omega (arith, h)) is

module _ (rows : List Row) (values : Values) (slot : ℕ) (x : Row) (some : IsRow (laid_from values.0 0 rows) slot) (is : x ≡ get_or rows slot x) where
  pub at_it : slice_get rows slot ≡ Some x
  at_it = at_of rows slot x (row_in_range values.0 rows slot some) is

  pub live_it : x.live ≡ true
  live_it = let r = the_live values.0 rows slot some in
      let same : r.0 ≡ x = some_is x r.0 x (sym r.1.0 ∙ at_it) in ap (λ (y : Row). y.live) (sym same) ∙ r.1.1

  pub shows : AreLaid rows values → Shows (row_at (laid_from values.0 0 rows) slot) x
  shows l =
      let shown = shown_is values.0 rows slot x at_it live_it in
      record {
        task = ap (option_map (λ (r : TaskRow). r.task)) shown;
        parent = ap (option_and_then (λ (r : TaskRow). r.parent)) shown;
        cursor = ap (option_map (λ (r : TaskRow). r.cursor)) shown;
        key = ap (option_and_then (λ (r : TaskRow). r.key)) shown;
        ready = ap is_ready shown ∙ ready_words x.asked (λ k. value_at values.0 (part_number slot k)) (l.three slot x at_it);
        three = l.three slot x at_it;
      }

pub slot_is_word : (rows : List Row) (values : Values) (slot : ℕ) → AreLaid rows values → IsRow (laid_from values.0 0 rows) slot → slot + 1 < 2 ^ 32
slot_is_word rows values slot l some = let below = row_in_range values.0 rows slot some in within l.words below
  where
    within : length rows < 2 ^ 32 → slot < length rows → slot + 1 < 2 ^ 32
    within h below = omega (arith, h, below)

pub part_in_room : (rows : List Row) (values : Values) (slot i : ℕ) → AreLaid rows values → IsRow (laid_from values.0 0 rows) slot → i < 3
    → part_number slot i < values.1
part_in_room rows values slot i l some h = let below = row_in_range values.0 rows slot some in let room = l.room in omega (arith, below, room, h)

pub value_empty : (rows : List Row) (values : Values) → AreLaid rows values → (slot i : ℕ) → IsRow (laid_from values.0 0 rows) slot → i < 3
    → got_of (laid_from values.0 0 rows) (record { slot = slot; index = i }) ≡ None → value_at values.0 (part_number slot i) ≡ None
value_empty rows values l slot i some h e = sym (got_at rows values l slot i some h) ∙ e

pub parent_fits : (rows : List Row) (values : Values) (parent : Option Part) → AreLaid rows values
    → IfSome parent (λ part. IsRow (laid_from values.0 0 rows) part.slot × (part.index < 3))
    → IfSome parent (λ part. (part.slot + 1 < 2 ^ 32) × (part.index < 3))
parent_fits rows values None l h = h
parent_fits rows values (Some part) l h = (slot_is_word rows values part.slot l h.0, h.1)

-- more room for values changes nothing
pub roomier : (rows : List Row) (values after : Values) → AreLaid rows values → after.0 ≡ values.0 → values.1 ≤ after.1 → AreLaid rows after
roomier rows values after l same more = record {
  owned = λ s i h some. l.owned s i h (subst (λ vs. IsSome (value_at vs (part_number s i))) same some);
  three = l.three;
  room = let had = l.room in omega (arith, had, more);
  words = l.words;
}

-- ---- ended rows that are dropped

module _ (initial rest : List Row) (row : Row) (dead : row.live ≡ false) (t : Trims initial (rest ++ row ∷ [])) where
  live_left : (slot : ℕ) → live_at rest slot ≡ live_at (rest ++ row ∷ []) slot
  live_left slot = elim (cases_eq slot (length rest)) [
    | inl e ↦ ap (λ s. live_at rest s) e ∙ ap (option_and_then (λ (r : Row). cond r.live (Some r) None)) (get_past rest)
        ∙ sym (ap (λ s. live_at (rest ++ row ∷ []) s) e ∙ ap (option_and_then (λ (r : Row). cond r.live (Some r) None)) (slice_get-push_same rest row)
        ∙ ap (λ b. cond b (Some row) None) dead)
    | inr ne ↦ ap (option_and_then (λ (r : Row). cond r.live (Some r) None)) (sym (slice_get-push_other rest row slot ne))
  ]

  dropped : Trims initial rest
  dropped = record {
    live = λ slot. live_left slot ∙ t.live slot;
    same = λ slot r e. let below = slice_get_within rest slot r e in t.same slot r (slice_get-push_other rest row slot (λ is. omega (arith, below, is)) ∙ e);
    shorter = let less = t.shorter in let len = length_push rest row in omega (arith, less, len);
  }

pub named_next : (word slot : ℕ) → word ≡ slot + 1 → named word ≡ Some slot
named_next word slot e = let is : word ≡ suc slot = omega (arith, e) in ap named is
