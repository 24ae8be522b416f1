-- Rows in a list: which slots have one, which are ready, and what a change of one leaves.
use Rattle.lucid_demand_steps.proofs.Common.{◌≡◌, ℕ, zero, suc, ◌<◌, ◌≤◌, List, [], ◌∷◌, Option, Some, None, refl, ap, ◌∙◌, arith, IsSome, slice_set, slice_index_or, list_all, Context, TaskRow, Idle, Asked, Got, PlainRow, plain_row, plain_rows}
use Rattle.std.proofs.Common.{◌≢◌, ◌&&◌}
use Rattle.std.specs.Prelude.{length, option_map}
use Rattle.lucid_tasks.specs.Rows as rows
use Rattle.lucid_tasks.specs.Rows.{row_at}
use Rattle.lucid_demand_steps.proofs.Slots.{at_it, at_another}

-- ---- which slots have a row

-- a plain row is that of a row
pub row_of_plain : (known : List Context) (rs : List (Option TaskRow)) (q : ℕ) (p : PlainRow) → plain_rows known rs q ≡ Some p
    → (r : TaskRow) × (row_at rs q ≡ Some r) × (plain_row known r ≡ p)
row_of_plain known rs q p = go (row_at rs q)
  where
    go : (o : Option TaskRow) → option_map (plain_row known) o ≡ Some p → (r : TaskRow) × (o ≡ Some r) × (plain_row known r ≡ p)
    go None e = absurd (cc)
    go (Some r) e = (r, refl, cc)

-- and a row's is there
pub plain_of_row : (known : List Context) (rs : List (Option TaskRow)) (q : ℕ) (r : TaskRow) → row_at rs q ≡ Some r
    → plain_rows known rs q ≡ Some (plain_row known r)
plain_of_row known rs q r at = ap (λ o. option_map (plain_row known) o) at

-- a slot that is past all rows is past all plain rows
pub plain_past : (known : List Context) (rs : List (Option TaskRow)) (slot : ℕ) → rows.IsPast rs slot → (q : ℕ) → IsSome (plain_rows known rs q) → q < slot
plain_past known rs slot past q some = past q (go (row_at rs q) some)
  where
    go : (o : Option TaskRow) → IsSome (option_map (plain_row known) o) → IsSome o
    go None e = e
    go (Some r) e = refl

-- past the list's end there is no row
pub none_past : (known : List Context) (rs : List (Option TaskRow)) (q : ℕ) → length rs ≤ q → plain_rows known rs q ≡ None
none_past known [] q l = refl
none_past known (o ∷ rs) zero l = absurd (omega (arith, l))
none_past known (o ∷ rs) (suc q) l = none_past known rs q (omega (arith, l))

-- ---- what a change leaves

-- the row that was changed, and the others
pub changed_there : (old new : List (Option TaskRow)) (slot : ℕ) (f : TaskRow → TaskRow) (r : TaskRow) → rows.ChangesOnly old new slot f
    → row_at old slot ≡ Some r → row_at new slot ≡ Some (f r)
changed_there old new slot f r changes at = changes slot ∙ at_it slot slot (option_map f (row_at old slot)) (row_at old slot) refl ∙ ap (λ o. option_map f o) at

pub same_elsewhere : (old new : List (Option TaskRow)) (slot : ℕ) (f : TaskRow → TaskRow) → rows.ChangesOnly old new slot f → (q : ℕ) → q ≢ slot
    → row_at new q ≡ row_at old q
same_elsewhere old new slot f changes q n = changes q ∙ at_another q slot (option_map f (row_at old q)) (row_at old q) n

emptied_free : (s : rows.PartState) → rows.is_free (rows.emptied s) ≡ rows.is_free s
emptied_free Idle = refl
emptied_free (Asked slot) = refl
emptied_free (Got v) = refl

free_taken : (ps : List rows.PartState) (i : ℕ) → list_all rows.is_free (slice_set ps i (rows.emptied (slice_index_or ps i Idle))) ≡ list_all rows.is_free ps
free_taken [] i = refl
free_taken (p ∷ ps) zero = ap (λ b. b && list_all rows.is_free ps) (emptied_free p)
free_taken (p ∷ ps) (suc i) = ap (λ b. rows.is_free p && b) (free_taken ps i)

-- a row whose value was taken is ready where it was
pub ready_after_take : (old taken : List (Option TaskRow)) (slot i : ℕ) → rows.ChangesOnly old taken slot (rows.taken i)
    → rows.is_ready (row_at taken slot) ≡ rows.is_ready (row_at old slot)
ready_after_take old taken slot i takes =
    ap (λ o. rows.is_ready o) (takes slot ∙ at_it slot slot (option_map (rows.taken i) (row_at old slot)) (row_at old slot) refl) ∙ go (row_at old slot)
  where
    go : (o : Option TaskRow) → rows.is_ready (option_map (rows.taken i) o) ≡ rows.is_ready o
    go None = refl
    go (Some r) = free_taken r.parts i
