-- A task of a row's part stays that of the part, whatever other part gets a value or is asked.
use Rattle.lucid_demand_steps.proofs.Common.{◌≡◌, ℕ, zero, suc, List, [], ◌∷◌, Option, Some, None, refl, sym, ap, ◌∙◌, subst, slice_set, PlainValue, Head, const, Look, Cursor, Table, PlainTask, PlainRow, PartState, idle, asked, got, state_at, value_in, value_of_part, look_of_row, IsPart, part_by_look, part_by_reference, with_part}
use Rattle.lucid_tree.specs.Tree.{choose}
use Rattle.lucid_demand_steps.specs.Parts.{look_of}

-- a write at a part that has no value leaves each value where it was
kept_at : (ps : List PartState) (i k : ℕ) (y : PartState) (v : PlainValue) → ((w : PlainValue) → state_at ps i ≡ got w → ⊥) → value_in (state_at ps k) ≡ Some v
    → state_at (slice_set ps i y) k ≡ state_at ps k
kept_at [] i k y v n e = absurd (cc)
kept_at (p ∷ ps) zero zero y v n e = absurd (first p n e)
  where
    first : (p : PartState) → ((w : PlainValue) → p ≡ got w → ⊥) → value_in p ≡ Some v → ⊥
    first idle n e = absurd (cc)
    first (asked slot) n e = absurd (cc)
    first (got w) n e = n w refl
kept_at (p ∷ ps) zero (suc k) y v n e = refl
kept_at (p ∷ ps) (suc i) zero y v n e = refl
kept_at (p ∷ ps) (suc i) (suc k) y v n e = kept_at ps i k y v n e

-- a look that is there without a value of part 1 is there with any
any_place : (i : ℕ) (f : Head) (c : Cursor) (p : Option PlainValue) (t s : ℕ) (l : Look) → look_of f c None t s i ≡ Some l → look_of f c p t s i ≡ Some l
any_place zero (const v) c p t s l e = e
any_place zero choose c p t s l e = e
any_place zero f c p t s l e = cc
any_place (suc i) (const v) c p t s l e = e
any_place (suc i) choose c p t s l e = e
any_place (suc i) f c p t s l e = e

-- so it stays where a value of part 1 stays
look_kept : (f : Head) (c : Cursor) (o p : Option PlainValue) (t s i : ℕ) (l : Look) → ((v : PlainValue) → o ≡ Some v → p ≡ Some v)
    → look_of f c o t s i ≡ Some l → look_of f c p t s i ≡ Some l
look_kept f c None p t s i l keeps e = any_place i f c p t s l e
look_kept f c (Some v) p t s i l keeps e = subst (λ q. look_of f c q t s i ≡ Some l) (sym (keeps v refl)) e

look_stays : (f : Head) (r : PlainRow) (i j : ℕ) (y : PartState) (l : Look) → ((w : PlainValue) → state_at r.parts i ≡ got w → ⊥)
    → look_of_row f r j ≡ Some l → look_of_row f (with_part i y r) j ≡ Some l
look_stays f r i j y l n e =
    look_kept f r.cursor (value_of_part r 1) (value_of_part (with_part i y r) 1) r.task.time r.task.space j l
    (λ v h. ap value_in (kept_at r.parts i 1 y v n h) ∙ h) e

-- What is the task of a part stays so where a part that has no value gets one or is asked.
pub part-stays : (T : Table) (r : PlainRow) (i j : ℕ) (y : PartState) (x : PlainTask) → IsPart T r j x → ((w : PlainValue) → state_at r.parts i ≡ got w → ⊥)
    → IsPart T (with_part i y r) j x
part-stays T r i j y x p n = go j p
  where
    go : (j : ℕ) → IsPart T r j x → IsPart T (with_part i y r) j x
    go j (part_by_look {f = f} {es = es} {l = l} k e q t) = part_by_look j e (look_stays f r i j y l n q) t
    go j (part_by_reference i e) = part_by_reference i e
