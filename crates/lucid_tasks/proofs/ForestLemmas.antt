-- What stays a forest.
use Rattle.lucid_tasks.proofs.Common.{◌≡◌, ℕ, zero, suc, ◌<◌, ◌≤◌, ◌+◌, true, false, List, length, Option, Some, None, IsSome, ◌⊎◌, inl, inr, refl, ap, sym, subst, ◌∙◌, arith, true≢false, option_and_then, option_map, none-some, cases_eq, Part, TaskRow, row_at, parent_of, child_of, asked_slot, state_at, is_ready, IsRow}
use Rattle.lucid_tasks.specs.Rows.{IsReady, IsForest}
use Rattle.lucid_tasks.proofs.Cases.{part_cases, some_is}
use Rattle.lucid_tasks.proofs.RowLemmas.{row_below, free_part, some_asked}

-- the slot of the task that was asked for a part of a row, if there is a row
abbrev pub child_in : ℕ → Option TaskRow → Option ℕ
child_in index o = option_and_then asked_slot (option_map (state_at index) o)

module _ (old new : List (Option TaskRow)) where
  pub forest_by_links : ((q : ℕ) → parent_of new q ≡ parent_of old q) → ((p : Part) → child_of new p ≡ child_of old p) → IsForest old → IsForest new
  forest_by_links parents children f = record {
    parent = λ slot part h. children part ∙ f.parent slot part (sym (parents slot) ∙ h);
    child = λ part slot h. parents slot ∙ f.child part slot (sym (children part) ∙ h);
    older = λ slot part h. f.older slot part (sym (parents slot) ∙ h);
    index = λ slot part h. f.index slot part (sym (parents slot) ∙ h);
  }

  -- a task in a slot that was empty is asked for a part that no task was asked for
  module _ (slot : ℕ) (parent : Part)
      (parent_new : parent_of new slot ≡ Some parent) (parents : (q : ℕ) → (q ≡ slot → ⊥) → parent_of new q ≡ parent_of old q)
      (child_new : child_of new parent ≡ Some slot) (children : (p : Part) → (p ≡ parent → ⊥) → child_of new p ≡ child_of old p)
      (empty : parent_of old slot ≡ None) (free : child_of old parent ≡ None) (older : parent.slot < slot) (index : parent.index < 3) where
    pub forest_asked : IsForest old → IsForest new
    forest_asked f = record {
      parent = λ q p h. parent_case q p h (cases_eq q slot) (part_cases p parent);
      child = λ p q h. child_case p q h (part_cases p parent) (cases_eq q slot);
      older = λ q p h. older_case q p h (cases_eq q slot);
      index = λ q p h. index_case q p h (cases_eq q slot);
    }
      where
        parent_case : (q : ℕ) (p : Part) → parent_of new q ≡ Some p → (q ≡ slot) ⊎ (q ≡ slot → ⊥) → (p ≡ parent) ⊎ (p ≡ parent → ⊥) → child_of new p ≡ Some q
        parent_case q p h (inl e) _ =
            let is : parent ≡ p = some_is parent parent p (sym parent_new ∙ ap (parent_of new) (sym e) ∙ h) in
            ap (child_of new) (sym is) ∙ child_new ∙ ap Some (sym e)
        parent_case q p h (inr ne) (inl e) = absurd (none-some q (sym free ∙ ap (child_of old) (sym e) ∙ f.parent q p (sym (parents q ne) ∙ h)))
        parent_case q p h (inr ne) (inr other) = children p other ∙ f.parent q p (sym (parents q ne) ∙ h)

        child_case : (p : Part) (q : ℕ) → child_of new p ≡ Some q → (p ≡ parent) ⊎ (p ≡ parent → ⊥) → (q ≡ slot) ⊎ (q ≡ slot → ⊥) → parent_of new q ≡ Some p
        child_case p q h (inl e) _ =
            let is : slot ≡ q = some_is slot slot q (sym child_new ∙ ap (child_of new) (sym e) ∙ h) in
            ap (parent_of new) (sym is) ∙ parent_new ∙ ap Some (sym e)
        child_case p q h (inr ne) (inl e) = absurd (none-some p (sym empty ∙ ap (parent_of old) (sym e) ∙ f.child p q (sym (children p ne) ∙ h)))
        child_case p q h (inr ne) (inr other) = parents q other ∙ f.child p q (sym (children p ne) ∙ h)

        older_case : (q : ℕ) (p : Part) → parent_of new q ≡ Some p → (q ≡ slot) ⊎ (q ≡ slot → ⊥) → p.slot < q
        older_case q p h (inl e) =
            let is : parent ≡ p = some_is parent parent p (sym parent_new ∙ ap (parent_of new) (sym e) ∙ h) in
            let at : parent.slot ≡ p.slot = ap (λ (part : Part). part.slot) is in omega (arith, older, e, at)
        older_case q p h (inr ne) = f.older q p (sym (parents q ne) ∙ h)

        index_case : (q : ℕ) (p : Part) → parent_of new q ≡ Some p → (q ≡ slot) ⊎ (q ≡ slot → ⊥) → p.index < 3
        index_case q p h (inl e) =
            let is : parent ≡ p = some_is parent parent p (sym parent_new ∙ ap (parent_of new) (sym e) ∙ h) in
            let at : parent.index ≡ p.index = ap (λ (part : Part). part.index) is in omega (arith, index, at)
        index_case q p h (inr ne) = f.index q p (sym (parents q ne) ∙ h)

  -- a task goes, and its part is then not asked
  module _ (slot : ℕ) (parent : Part) (was : parent_of old slot ≡ Some parent)
      (parent_new : parent_of new slot ≡ None) (parents : (q : ℕ) → (q ≡ slot → ⊥) → parent_of new q ≡ parent_of old q)
      (child_new : child_of new parent ≡ None) (children : (p : Part) → (p ≡ parent → ⊥) → child_of new p ≡ child_of old p) where
    pub forest_settled : IsForest old → IsForest new
    forest_settled f = record {
      parent = λ q p h. parent_case q p h (cases_eq q slot) (part_cases p parent);
      child = λ p q h. child_case p q h (part_cases p parent) (cases_eq q slot);
      older = λ q p h. f.older q p (before q p h (cases_eq q slot));
      index = λ q p h. f.index q p (before q p h (cases_eq q slot));
    }
      where
        before : (q : ℕ) (p : Part) → parent_of new q ≡ Some p → (q ≡ slot) ⊎ (q ≡ slot → ⊥) → parent_of old q ≡ Some p
        before q p h (inl e) = absurd (none-some p (sym parent_new ∙ ap (parent_of new) (sym e) ∙ h))
        before q p h (inr ne) = sym (parents q ne) ∙ h

        parent_case : (q : ℕ) (p : Part) → parent_of new q ≡ Some p → (q ≡ slot) ⊎ (q ≡ slot → ⊥) → (p ≡ parent) ⊎ (p ≡ parent → ⊥) → child_of new p ≡ Some q
        parent_case q p h (inl e) _ = absurd (none-some p (sym parent_new ∙ ap (parent_of new) (sym e) ∙ h))
        parent_case q p h (inr ne) (inl e) =
            absurd (ne (some_is q q slot (sym (f.parent q p (sym (parents q ne) ∙ h)) ∙ ap (child_of old) e ∙ f.parent slot parent was)))
        parent_case q p h (inr ne) (inr other) = children p other ∙ f.parent q p (sym (parents q ne) ∙ h)

        child_case : (p : Part) (q : ℕ) → child_of new p ≡ Some q → (p ≡ parent) ⊎ (p ≡ parent → ⊥) → (q ≡ slot) ⊎ (q ≡ slot → ⊥) → parent_of new q ≡ Some p
        child_case p q h (inl e) _ = absurd (none-some q (sym child_new ∙ ap (child_of new) (sym e) ∙ h))
        child_case p q h (inr ne) (inl e) =
            absurd (ne (some_is p p parent (sym (f.child p q (sym (children p ne) ∙ h)) ∙ ap (parent_of old) e ∙ was)))
        child_case p q h (inr ne) (inr other) = parents q other ∙ f.child p q (sym (children p ne) ∙ h)

-- ---- ready rows

-- a ready row has asked for nothing
pub ready_is_free : (rows : List (Option TaskRow)) (part : Part) → is_ready (row_at rows part.slot) ≡ true → child_of rows part ≡ None
ready_is_free rows part h = by_row (row_at rows part.slot) h
  where
    by_row : (o : Option TaskRow) → is_ready o ≡ true → child_in part.index o ≡ None
    by_row None h = refl
    by_row (Some row) h = free_part row.parts part.index h

pub ready_is_row : (o : Option TaskRow) → is_ready o ≡ true → IsSome o
ready_is_row None h = absurd (true≢false (sym h))
ready_is_row (Some row) h = refl

-- a row that isn't ready has asked a task
pub waits_for : (rows : List (Option TaskRow)) (slot : ℕ) → IsRow rows slot → is_ready (row_at rows slot) ≡ false
    → (index : ℕ) × ((child : ℕ) × (child_of rows (record { slot = slot; index = index }) ≡ Some child))
waits_for rows slot some h = by_row (row_at rows slot) some h
  where
    by_row : (o : Option TaskRow) → IsSome o → is_ready o ≡ false → (index : ℕ) × ((child : ℕ) × (child_in index o ≡ Some child))
    by_row None some h = absurd (true≢false (sym some))
    by_row (Some row) some h = some_asked row.parts h

parent_is_row : (rows : List (Option TaskRow)) (q : ℕ) (part : Part) → parent_of rows q ≡ Some part → IsRow rows q
parent_is_row rows q part h = by_row (row_at rows q) h
  where
    by_row : (o : Option TaskRow) → option_and_then (λ (row : TaskRow). row.parent) o ≡ Some part → IsSome o
    by_row None h = absurd (none-some part h)
    by_row (Some row) h = refl

-- a row is ready where it is no row's parent
pub ready_meaning : (rows : List (Option TaskRow)) → IsForest rows → (slot : ℕ) → is_ready (row_at rows slot) ≡ true → IsReady rows slot
ready_meaning rows f slot h = record {
  row = ready_is_row (row_at rows slot) h;
  free = λ child part p e. none-some child (sym (ready_is_free rows part (subst (λ s. is_ready (row_at rows s) ≡ true) (sym e) h)) ∙ f.parent child part p);
}

pub ready_from_meaning : (rows : List (Option TaskRow)) → IsForest rows → (slot : ℕ) → IsReady rows slot → is_ready (row_at rows slot) ≡ true
ready_from_meaning rows f slot h = (elim (is_ready (row_at rows slot)) as (λ b. is_ready (row_at rows slot) ≡ b → b ≡ true) [
  | true ↦ λ e. refl
  | false ↦ λ e. let w = waits_for rows slot h.row e in
      absurd (h.free w.1.0 (record { slot = slot; index = w.0 }) (f.child (record { slot = slot; index = w.0 }) w.1.0 w.1.1) refl)
]) refl

pub is_below : (rows : List (Option TaskRow)) (q : ℕ) → IsRow rows q → q < length rows
is_below rows q some = by_row (row_at rows q) refl some
  where
    by_row : (o : Option TaskRow) → row_at rows q ≡ o → IsSome o → q < length rows
    by_row None e some = absurd (true≢false (sym some))
    by_row (Some row) e some = row_below rows q row e

-- where there is a row, some row is ready
pub ready_exists : (rows : List (Option TaskRow)) → IsForest rows → (left slot : ℕ) → length rows ≤ slot + left → IsRow rows slot
    → (q : ℕ) × (is_ready (row_at rows q) ≡ true)
ready_exists rows f zero slot h row = let below = is_below rows slot row in absurd (omega (arith, h, below))
ready_exists rows f (suc left) slot h row = (elim
    (is_ready (row_at rows slot)) as (λ b. is_ready (row_at rows slot) ≡ b → (q : ℕ) × (is_ready (row_at rows q) ≡ true)) [
      | true ↦ λ e. (slot, e)
      | false ↦ λ e.
          let w = waits_for rows slot row e in
          let parent = f.child (record { slot = slot; index = w.0 }) w.1.0 w.1.1 in
          let older = f.older w.1.0 (record { slot = slot; index = w.0 }) parent in
          ready_exists rows f left w.1.0 (omega (arith, h, older)) (parent_is_row rows w.1.0 (record { slot = slot; index = w.0 }) parent)
    ]) refl
