-- The facts of all rows where a part of one row is set: it gets a value, or a task is asked for it.
use Rattle.lucid_demand_steps.proofs.Common.{◌≡◌, ◌⊎◌, inl, inr, ℕ, zero, suc, ◌<◌, List, [], ◌∷◌, Option, Some, None, refl, sym, ap, ◌∙◌, subst, arith, IsSome, slice_set, cases_eq, PlainValue, Elements, Part, Extends, PlainTask, PlainRow, PlainRows, DatonAt, PartState, idle, asked, got, state_at, new_row, IsPart, Holding, Demand, table_of, RowFacts, PartAnswers, Serves, Links, Work, with_part, SetsRow, ChangesRow, AsksRow, AsksFor}
use Rattle.std.specs.Prelude.{length}
use Rattle.lucid_demand_steps.proofs.Slots.{at_it, at_another}
use Rattle.lucid_demand_steps.proofs.Steps.{with_row, changes_is_set, asks_in_two}
use Rattle.lucid_demand_steps.proofs.Parting.{part-stays}
use Rattle.lucid_demand_steps.proofs.PartFacts.{part-got, part-asked}
use Rattle.lucid_demand_steps.proofs.Working.{one_row, serves_there, none_is_no_parent, work_sets}

other_state : (ps : List PartState) (i k : ℕ) (y : PartState) → (k ≡ i → ⊥) → state_at (slice_set ps i y) k ≡ state_at ps k
other_state [] i k y n = refl
other_state (p ∷ ps) zero zero y n = absurd (n refl)
other_state (p ∷ ps) zero (suc k) y n = refl
other_state (p ∷ ps) (suc i) zero y n = refl
other_state (p ∷ ps) (suc i) (suc k) y n = other_state ps i k y (λ e. n (ap suc e))

set_state : (ps : List PartState) (i : ℕ) (y : PartState) → i < length ps → state_at (slice_set ps i y) i ≡ y
set_state [] i y l = absurd (omega (arith, l))
set_state (p ∷ ps) zero y l = refl
set_state (p ∷ ps) (suc i) y l = set_state ps i y (omega (arith, l))

-- A part of a row is set that is no row's, and that isn't got: the facts of the other rows stay.
module _ (d : Demand) (now : Elements) (h : Holding) (lost : ℕ) (old new : PlainRows) (slot i : ℕ) (p : PlainRow) (y : PartState) (w : Work d now h lost old)
    (at : old slot ≡ Some p)
    (unset : (v : PlainValue) → state_at p.parts i ≡ got v → ⊥)
    (alone : (q : ℕ) (c : PlainRow) → old q ≡ Some c → c.parent ≡ Some (record { slot = slot; index = i }) → ⊥)
    (facts : (b : Elements) → Extends now b → RowFacts d b h lost (with_part i y p)) (sets : SetsRow old new slot (Some (with_part i y p))) where
  elsewhere : (q : ℕ) → (q ≡ slot → ⊥) → new q ≡ old q
  elsewhere q n = sets q ∙ at_another q slot (Some (with_part i y p)) (old q) n

  here : (q : ℕ) → q ≡ slot → new q ≡ Some (with_part i y p)
  here q e = sets q ∙ at_it q slot (Some (with_part i y p)) (old q) e

  -- a row that waits for another part is there with the part set
  serves_beside : (q : ℕ) (c : PlainRow) (part : Part) → part.slot ≡ slot → (part.index ≡ i → ⊥) → Serves d old q c part → Serves d new q c part
  serves_beside q c part e n s =
      let same : s.parent ≡ p = one_row (old slot) s.parent p (ap old (sym e) ∙ s.there) at in
      record {
        parent = with_part i y p;
        there = here part.slot e;
        asked_it = other_state p.parts i part.index y n ∙ ap (λ z. state_at z.parts part.index) (sym same) ∙ s.asked_it;
        older = s.older;
        task = s.task;
        is_part = part-stays (table_of d) p i part.index y s.task (subst (λ z. IsPart (table_of d) z part.index s.task) same s.is_part) unset;
        stands = s.stands;
      }

  serves_set : (q : ℕ) (c : PlainRow) (part : Part) → old q ≡ Some c → c.parent ≡ Some part → (part.slot ≡ slot) ⊎ (part.slot ≡ slot → ⊥)
      → Serves d old q c part → Serves d new q c part
  serves_set q c part was up (inl e) s =
      serves_beside q c part e (λ f. alone q c was (up ∙ ap (λ z. Some (record { slot = z; index = part.index })) e
      ∙ ap (λ z. Some (record { slot = slot; index = z })) f)) s
  serves_set q c part was up (inr n) s = serves_there d old new q c part (elsewhere part.slot n) s

  links_kept : (q : ℕ) (c : PlainRow) → old q ≡ Some c → Links d new q c
  links_kept q c was = let l = w.links q c was in
      record { root = l.root; serves = λ part up. serves_set q c part was up (cases_eq part.slot slot) (l.serves part up) }

  -- the row whose part is set is linked as it was
  links_changed : Links d new slot p → Links d new slot (with_part i y p)
  links_changed l = record { root = l.root; serves = λ part up. again part (l.serves part up) }
    where
      again : (part : Part) → Serves d new slot p part → Serves d new slot (with_part i y p) part
      again part s = record {
        parent = s.parent;
        there = s.there;
        asked_it = s.asked_it;
        older = s.older;
        task = s.task;
        is_part = s.is_part;
        stands = s.stands;
      }

  each : (q : ℕ) (c : PlainRow) → new q ≡ Some c → (q ≡ slot) ⊎ (q ≡ slot → ⊥) → (b : Elements) → Extends now b → RowFacts d b h lost c
  each q c e (inl s) = subst (λ z. (b : Elements) → Extends now b → RowFacts d b h lost z) (one_row (new q) (with_part i y p) c (here q s) e) facts
  each q c e (inr n) = w.each q c (sym (elsewhere q n) ∙ e)

  links : (q : ℕ) (c : PlainRow) → new q ≡ Some c → (q ≡ slot) ⊎ (q ≡ slot → ⊥) → Links d new q c
  links q c e (inl s) =
      subst (λ z. Links d new q z) (one_row (new q) (with_part i y p) c (here q s) e)
      (subst (λ z. Links d new z (with_part i y p)) (sym s) (links_changed (links_kept slot p at)))
  links q c e (inr n) = links_kept q c (sym (elsewhere q n) ∙ e)

  pub work_part : Work d now h lost new
  work_part = record {
    each = λ q c e. each q c e (cases_eq q slot);
    links = λ q c e. links q c e (cases_eq q slot);
    some = (slot, with_part i y p, here slot refl);
  }

-- A part that is idle is no row's.
idle_is_alone : (d : Demand) (now : Elements) (h : Holding) (lost : ℕ) (old : PlainRows) (slot i : ℕ) (p : PlainRow) → Work d now h lost old → old slot ≡ Some p
    → state_at p.parts i ≡ idle
    → (q : ℕ) (c : PlainRow) → old q ≡ Some c → c.parent ≡ Some (record { slot = slot; index = i }) → ⊥
idle_is_alone d now h lost old slot i p w at free q c e up =
    let s = (w.links q c e).serves (record { slot = slot; index = i }) up in
    let same : s.parent ≡ p = one_row (old slot) s.parent p s.there at in
    let both : idle ≡ asked q = sym free ∙ ap (λ z. state_at z.parts i) (sym same) ∙ s.asked_it in
    absurd (cc)

idle_is_unset : (p : PlainRow) (i : ℕ) → state_at p.parts i ≡ idle → (v : PlainValue) → state_at p.parts i ≡ got v → ⊥
idle_is_unset p i free v e = let both : idle ≡ got v = sym free ∙ e in absurd (cc)

-- A part gets a value without a row.
pub work_gives : (d : Demand) (now : Elements) (h : Holding) (lost : ℕ) (old new : PlainRows) (slot i : ℕ) (r : PlainRow) (v : PlainValue)
    → Work d now h lost old → old slot ≡ Some r
    → state_at r.parts i ≡ idle → i < 3 → ((b : Elements) → Extends now b → PartAnswers d b h lost r i v) → ChangesRow old new slot (with_part i (got v))
    → Work d now h lost new
work_gives d now h lost old new slot i r v w at free few answers changes =
    let unset = idle_is_unset r i free in
    work_part d now h lost old new slot i r (got v) w at unset (idle_is_alone d now h lost old slot i r w at free)
    (λ b x. part-got d b h lost r i v (w.each slot r at b x) few unset (answers b x)) (changes_is_set old new slot (with_part i (got v)) r at changes)

-- a slot that is past all rows has none
pub past_is_none : (rows : PlainRows) (slot : ℕ) → ((q : ℕ) → IsSome (rows q) → q < slot) → rows slot ≡ None
past_is_none rows slot past = go (rows slot) refl
  where
    go : (o : Option PlainRow) → rows slot ≡ o → o ≡ None
    go None e = refl
    go (Some c) e = let l = past slot (subst (λ o. IsSome o) (sym e) refl) in absurd (omega (arith, l))

-- A part is asked, by a task that stands for it.
pub work_asks : (d : Demand) (now : Elements) (h : Holding) (lost : ℕ) (old new : PlainRows) (part : Part) (slot : ℕ) (r : PlainRow) (x : PlainTask)
    (key : Option DatonAt) → Work d now h lost old → old part.slot ≡ Some r
    → state_at r.parts part.index ≡ idle → part.index < 3 → AsksFor (table_of d) r part.index x key
    → ((b : Elements) → Extends now b → RowFacts d b h lost (new_row x (Some part) key))
    → ((q : ℕ) → IsSome (old q) → q < slot) → AsksRow old new (Some part) slot x key → Work d now h lost new
work_asks d now h lost old new part slot r x key w at free few asks facts past changes =
    work_sets d now h lost mid waiting new slot (Some child) (none_is_no_parent d now h lost mid waiting slot unused)
    (λ c e. subst (λ z. (b : Elements) → Extends now b → RowFacts d b h lost z) (same c e) facts) (λ c e. subst (λ z. Links d new slot z) (same c e) linked)
    (part.slot, with_part part.index (asked slot) r, parent_there) sets
  where
    child : PlainRow
    child = new_row x (Some part) key

    mid : PlainRows
    mid = with_row old part.slot (Some (with_part part.index (asked slot) r))

    sets : SetsRow mid new slot (Some child)
    sets = asks_in_two old new part slot r x key at changes

    waiting : Work d now h lost mid
    waiting =
        work_part d now h lost old mid part.slot part.index r (asked slot) w at (idle_is_unset r part.index free)
        (idle_is_alone d now h lost old part.slot part.index r w at free)
        (λ b z. part-asked d b h lost r part.index slot (w.each part.slot r at b z) free) (λ q. refl)

    older : part.slot < slot
    older = past part.slot (subst (λ o. IsSome o) (sym at) refl)

    unused : mid slot ≡ None
    unused = at_another slot part.slot (Some (with_part part.index (asked slot) r)) (old slot) (λ e. absurd (omega (arith, older, e)))
        ∙ past_is_none old slot past

    same : (c : PlainRow) → Some child ≡ Some c → child ≡ c
    same c e = cc

    parent_there : new part.slot ≡ Some (with_part part.index (asked slot) r)
    parent_there =
        sets part.slot ∙ at_another part.slot slot (Some child) (mid part.slot) (λ e. absurd (omega (arith, older, e)))
        ∙ at_it part.slot part.slot (Some (with_part part.index (asked slot) r)) (old part.slot) refl

    serves : Serves d new slot child part
    serves = record {
      parent = with_part part.index (asked slot) r;
      there = parent_there;
      asked_it = set_state r.parts part.index (asked slot) (subst (λ n. part.index < n) (sym ((w.each part.slot r at now (λ n j v k. k)).three)) few);
      older = older;
      task = asks.part;
      is_part = part-stays (table_of d) r part.index part.index (asked slot) asks.part asks.is_part (idle_is_unset r part.index free);
      stands = asks.stands;
    }

    linked : Links d new slot child
    linked = record { root = λ e. absurd (cc); serves = λ u e. subst (λ z. Serves d new slot child z) (cc) serves }
