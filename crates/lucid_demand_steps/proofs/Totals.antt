-- What all rows below a slot can still cost, at each change of the rows.
use Rattle.lucid_demand_steps.proofs.Common.{◌≡◌, ℕ, zero, suc, ◌+◌, ◌<◌, ◌≤◌, ◌⊎◌, inl, inr, Option, Some, None, refl, sym, ap, ◌∙◌, arith, cases_eq, PlainValue, Part, Table, PlainTask, PlainRow, PlainRows, DatonAt, idle, asked, got, state_at, new_row, rank, with_part, SetsRow, AsksRow, SettlesRow, weight, total}
use Rattle.std.specs.Prelude.{length, ◌≢◌}
use Rattle.lucid_demand_steps.specs.Measure.{weight_at}
use Rattle.lucid_demand_steps.proofs.Slots.{at_it, at_another}
use Rattle.lucid_demand_steps.proofs.Steps.{with_row, asks_in_two, settles_in_two}
use Rattle.lucid_demand_steps.proofs.Falling.{asking_falls, given_weight}

-- rows that are the same below a slot can cost the same there
pub total_same : (T : Table) (limit : ℕ) (old new : PlainRows) (n : ℕ) → ((q : ℕ) → q < n → new q ≡ old q) → total T limit new n ≡ total T limit old n
total_same T limit old new zero h = refl
total_same T limit old new (suc n) h =
    ap (λ k. k + weight_at T limit (new n)) (total_same T limit old new n (λ q l. h q (omega (arith, l))))
    ∙ ap (λ o. total T limit old n + weight_at T limit o) (h n (omega arith))

-- past the last row nothing more can cost
pub total_past : (T : Table) (limit : ℕ) (rows : PlainRows) (n m : ℕ) → ((q : ℕ) → n ≤ q → rows q ≡ None) → n ≤ m → total T limit rows m ≡ total T limit rows n
total_past T limit rows n zero h l = let e : n ≡ 0 = omega (arith, l) in ap (λ k. total T limit rows k) (sym e)
total_past T limit rows n (suc m) h l = go (λ b. total_past T limit rows n m h b) (cases_eq n (suc m))
  where
    go : (n ≤ m → total T limit rows m ≡ total T limit rows n) → (n ≡ suc m) ⊎ (n ≡ suc m → ⊥) → total T limit rows (suc m) ≡ total T limit rows n
    go again (inl e) = ap (λ k. total T limit rows k) (sym e)
    go again (inr other) =
        let below : n ≤ m = omega (arith, l, other) in
        let rest = again below in
        let none : weight_at T limit (rows m) ≡ 0 = ap (λ o. weight_at T limit o) (h m below) in
        omega (arith, rest, none)

-- a slot's row is set: its weight takes the place of the old one's
pub total_set : (T : Table) (limit : ℕ) (old new : PlainRows) (slot n : ℕ) (row : Option PlainRow) → SetsRow old new slot row → slot < n
    → total T limit new n + weight_at T limit (old slot) ≡ total T limit old n + weight_at T limit row
total_set T limit old new slot zero row sets l = absurd (omega (arith, l))
total_set T limit old new slot (suc n) row sets l = go (λ b. total_set T limit old new slot n row sets b) (cases_eq n slot)
  where
    go : (slot < n → total T limit new n + weight_at T limit (old slot) ≡ total T limit old n + weight_at T limit row) → (n ≡ slot) ⊎ (n ≡ slot → ⊥)
        → total T limit new (suc n) + weight_at T limit (old slot) ≡ total T limit old (suc n) + weight_at T limit row
    go again (inl e) =
        let before = total_same T limit old new n (λ q k. sets q ∙ at_another q slot row (old q) (λ z. absurd (omega (arith, e, k, z)))) in
        let here : weight_at T limit (new n) ≡ weight_at T limit row = ap (λ o. weight_at T limit o) (sets n ∙ at_it n slot row (old n) e) in
        let there : weight_at T limit (old n) ≡ weight_at T limit (old slot) = ap (λ q. weight_at T limit (old q)) e in
        omega (arith, before, here, there)
    go again (inr other) =
        let before = again (omega (arith, l, other)) in
        let here : weight_at T limit (new n) ≡ weight_at T limit (old n) = ap (λ o. weight_at T limit o) (sets n ∙ at_another n slot row (old n) other) in
        omega (arith, before, here)

-- a row takes the place of one that costs more: all can cost less than before
pub total_changes : (T : Table) (limit : ℕ) (old new : PlainRows) (slot n : ℕ) (r s : PlainRow) → old slot ≡ Some r → weight T limit s < weight T limit r
    → SetsRow old new slot (Some s) → slot < n
    → total T limit new n < total T limit old n
total_changes T limit old new slot n r s at falls sets below =
    let set = total_set T limit old new slot n (Some s) sets below in
    let was : weight_at T limit (old slot) ≡ weight T limit r = ap (λ o. weight_at T limit o) at in
    omega (arith, set, was, falls)

-- and one that costs no more: no more than before
pub total_begins : (T : Table) (limit : ℕ) (old new : PlainRows) (slot n : ℕ) (r s : PlainRow) → old slot ≡ Some r → weight T limit s ≤ weight T limit r
    → SetsRow old new slot (Some s) → slot < n
    → total T limit new n ≤ total T limit old n
total_begins T limit old new slot n r s at no_more sets below =
    let set = total_set T limit old new slot n (Some s) sets below in
    let was : weight_at T limit (old slot) ≡ weight T limit r = ap (λ o. weight_at T limit o) at in
    omega (arith, set, was, no_more)

-- a part is asked, whose row is new: all can cost less than before
pub total_asks : (T : Table) (limit : ℕ) (old new : PlainRows) (part : Part) (slot n : ℕ) (r : PlainRow) (x : PlainTask) (key : Option DatonAt)
    → old part.slot ≡ Some r → old slot ≡ None
    → state_at r.parts part.index ≡ idle → part.index < length r.parts → rank T x < rank T r.task → x.limit ≤ limit → AsksRow old new (Some part) slot x key
    → part.slot < n → slot < n
    → total T limit new n < total T limit old n
total_asks T limit old new part slot n r x key at none free few lower le asks part_below below =
    let changed = with_part part.index (asked slot) r in
    let mid = with_row old part.slot (Some changed) in
    let first = total_set T limit old mid part.slot n (Some changed) (λ q. refl) part_below in
    let second = total_set T limit mid new slot n (Some (new_row x (Some part) key)) (asks_in_two old new part slot r x key at asks) below in
    let fall = asking_falls T limit r part.index slot x (Some part) key free few lower le in
    let was : weight_at T limit (old part.slot) ≡ weight T limit r = ap (λ o. weight_at T limit o) at in
    let empty : weight_at T limit (mid slot) ≡ 0 = ap (λ o. weight_at T limit o) (at_another slot part.slot (Some changed) (old slot) apart ∙ none) in
    omega (arith, first, second, fall, was, empty)
  where
    apart : slot ≡ part.slot → ⊥
    apart e = let both : None ≡ Some r = sym none ∙ ap old e ∙ at in absurd (cc)

weighs_one : (T : Table) (limit : ℕ) (r : PlainRow) → 0 < weight T limit r
weighs_one T limit r = omega arith

-- a row settles for a part of another: it costs nothing more, and the other what it did
pub total_settles : (T : Table) (limit : ℕ) (old new : PlainRows) (slot n : ℕ) (r p : PlainRow) (part : Part) (v : PlainValue) → old slot ≡ Some r
    → r.parent ≡ Some part → part.slot ≢ slot
    → old part.slot ≡ Some p → state_at p.parts part.index ≡ asked slot → SettlesRow old new slot r v → slot < n → part.slot < n
    → total T limit new n < total T limit old n
total_settles T limit old new slot n r p part v at up apart there asked_it settles below part_below =
    let changed = with_part part.index (got v) p in
    let mid = with_row old slot None in
    let first = total_set T limit old mid slot n None (λ q. refl) below in
    let second = total_set T limit mid new part.slot n (Some changed) (settles_in_two old new slot r p part v up apart there settles) part_below in
    let same = given_weight T limit p part.index slot v asked_it in
    let gone : weight_at T limit (old slot) ≡ weight T limit r = ap (λ o. weight_at T limit o) at in
    let was : weight_at T limit (mid part.slot) ≡ weight T limit p =
    ap (λ o. weight_at T limit o) (at_another part.slot slot None (old part.slot) apart ∙ there) in
    let some = weighs_one T limit r in
    go (total T limit old n) (total T limit mid n) (total T limit new n) (weight T limit r) (weight T limit p) (weight_at T limit (mid part.slot))
    (weight T limit changed)
    (weight_at T limit (old slot)) first second same was gone some
  where
    go : (a m b w p o c g : ℕ) → m + g ≡ a + 0 → b + o ≡ m + c → c ≡ p → o ≡ p → g ≡ w → 0 < w → b < a
    go a m b w p o c g x y z u t l = omega (arith, x, y, z, u, t, l)
