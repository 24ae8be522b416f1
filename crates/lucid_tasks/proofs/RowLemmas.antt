-- Rows in their slots, and how their parts stand.
use Rattle.lucid_tasks.proofs.Common.{◌≡◌, ◌≢◌, ℕ, zero, suc, ◌<◌, Bool, true, false, ◌&&◌, List, [], ◌∷◌, length, get_or, set, Option, Some, None, refl, ap, sym, ◌∙◌, arith, true≢false, list_all, none-some, PartState, Idle, Asked, Got, TaskRow, row_at, asked_slot, is_free, all_idle}

pub row_below : (rows : List (Option TaskRow)) (q : ℕ) (row : TaskRow) → row_at rows q ≡ Some row → q < length rows
row_below [] q row h = absurd (none-some row h)
row_below (r ∷ rows) zero row h = omega arith
row_below (r ∷ rows) (suc q) row h = let rest = row_below rows q row h in omega (arith, rest)

-- ---- parts that are asked

pub free_part : (parts : List PartState) (i : ℕ) → list_all is_free parts ≡ true → asked_slot (get_or parts i Idle) ≡ None
free_part [] i h = refl
free_part (Idle ∷ parts) zero h = refl
free_part (Idle ∷ parts) (suc i) h = free_part parts i h
free_part (Got v ∷ parts) zero h = refl
free_part (Got v ∷ parts) (suc i) h = free_part parts i h
free_part (Asked s ∷ parts) i h = absurd (true≢false (sym h))

-- some part is asked, where not all are free
pub some_asked : (parts : List PartState) → list_all is_free parts ≡ false → (i : ℕ) × ((child : ℕ) × (asked_slot (get_or parts i Idle) ≡ Some child))
some_asked [] h = absurd (true≢false h)
some_asked (Idle ∷ parts) h = let rest = some_asked parts h in (suc rest.0, rest.1)
some_asked (Got v ∷ parts) h = let rest = some_asked parts h in (suc rest.0, rest.1)
some_asked (Asked s ∷ parts) h = (0, (s, refl))

pub fresh_part : (i : ℕ) → asked_slot (get_or all_idle i Idle) ≡ None
fresh_part i = free_part all_idle i refl

-- ---- a part that is set

pub part_set : (parts : List PartState) (i : ℕ) (s : PartState) → i < length parts → get_or (set parts i s) i Idle ≡ s
part_set [] i s h = absurd (omega (arith, h))
part_set (p ∷ parts) zero s h = refl
part_set (p ∷ parts) (suc i) s h = part_set parts i s (omega (arith, h))

pub part_other : (parts : List PartState) (i : ℕ) (s : PartState) (k : ℕ) → k ≢ i → get_or (set parts i s) k Idle ≡ get_or parts k Idle
part_other [] i s k ne = refl
part_other (p ∷ parts) zero s zero ne = absurd (ne refl)
part_other (p ∷ parts) zero s (suc k) ne = refl
part_other (p ∷ parts) (suc i) s zero ne = refl
part_other (p ∷ parts) (suc i) s (suc k) ne = part_other parts i s k (λ e. ne (ap suc e))

pub parts_length : (parts : List PartState) (i : ℕ) (s : PartState) → length (set parts i s) ≡ length parts
parts_length [] i s = refl
parts_length (p ∷ parts) zero s = refl
parts_length (p ∷ parts) (suc i) s = ap suc (parts_length parts i s)

and_false : (b : Bool) → b && false ≡ false
and_false true = refl
and_false false = refl

-- a row of which a part is asked waits
pub asked_waits : (parts : List PartState) (i child : ℕ) → i < length parts → list_all is_free (set parts i (Asked child)) ≡ false
asked_waits [] i child h = absurd (omega (arith, h))
asked_waits (p ∷ parts) zero child h = refl
asked_waits (p ∷ parts) (suc i) child h = ap (λ b. is_free p && b) (asked_waits parts i child (omega (arith, h))) ∙ and_false (is_free p)

-- a part that is free before and after says nothing of the others
pub free_set : (parts : List PartState) (i : ℕ) (s : PartState) → is_free s ≡ is_free (get_or parts i Idle)
    → list_all is_free (set parts i s) ≡ list_all is_free parts
free_set [] i s e = refl
free_set (p ∷ parts) zero s e = ap (λ b. b && list_all is_free parts) e
free_set (p ∷ parts) (suc i) s e = ap (λ b. is_free p && b) (free_set parts i s e)
