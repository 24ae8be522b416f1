-- What a row can still cost falls, or doesn't rise, at each change of the row.
use Rattle.lucid_demand_steps.proofs.Common.{◌≡◌, ◌∙◌, ℕ, zero, suc, ◌+◌, ◌-◌, ◌*◌, ◌<◌, ◌≤◌, List, [], ◌∷◌, Option, refl, sym, ap, subst, arith, slice_set, PlainValue, Part, Cursor, Table, PlainTask, PlainRow, DatonAt, PartState, idle, asked, got, state_at, all_idle, new_row, rank, with_part, at_cursor, weight, sum_by, mul-le-mul_right, sum_by-cons}
use Rattle.std.specs.Prelude.{length}
use Rattle.lucid_demand_steps.specs.Measure.{cost_below, idle_one}

cost_is : (limit r : ℕ) → cost_below limit (suc r) ≡ 2 + 3 * cost_below limit r + limit * (3 * cost_below limit r + 1)
unfolding cost_below
cost_is limit r = refl

cost_zero : (limit : ℕ) → cost_below limit 0 ≡ 1
unfolding cost_below
cost_zero limit = refl

-- a part costs something
cost_some : (limit r : ℕ) → 0 < cost_below limit r
cost_some limit zero = rw (cost_zero limit) (omega arith)
cost_some limit (suc r) = rw (cost_is limit r) (omega arith)

-- the cost rises with the rank
cost_rises : (limit r s : ℕ) → r ≤ s → cost_below limit r ≤ cost_below limit s
cost_rises limit r zero h = let e : r ≡ 0 = omega (arith, h) in subst (λ n. cost_below limit n ≤ cost_below limit 0) (sym e) (omega arith)
cost_rises limit zero (suc s) h = subst (λ n. n ≤ cost_below limit (suc s)) (sym (cost_zero limit)) (cost_some limit (suc s))
cost_rises limit (suc r) (suc s) h = rw (cost_is limit r, cost_is limit s)
    (go (cost_below limit r) (cost_below limit s) (cost_rises limit r s (omega (arith, h))))
  where
    go : (a b : ℕ) → a ≤ b → 2 + 3 * a + limit * (3 * a + 1) ≤ 2 + 3 * b + limit * (3 * b + 1)
    go a b g = grind (arith, g)

-- a new row costs less than a part of a row that ranks higher
new_costs : (limit own part r : ℕ) → own ≤ limit → part ≡ cost_below limit r → 1 + 3 * part + own * (3 * part + 1) < cost_below limit (suc r)
unfolding cost_below
new_costs limit own part r le e =
    let m = mul-le-mul_right {m = own} {n = limit} (3 * part + 1) le in
    let s : limit * (3 * part + 1) ≡ limit * (3 * cost_below limit r + 1) = ap (λ q. limit * (3 * q + 1)) e in
    omega (arith, m, s)

new_weight : (T : Table) (limit : ℕ) (x : PlainTask) (parent : Option Part) (key : Option DatonAt) → x.limit ≤ limit
    → weight T limit (new_row x parent key) < cost_below limit (suc (rank T x))
new_weight T limit x parent key le = new_costs limit (x.limit - 0) (cost_below limit (rank T x)) (rank T x) (omega (arith, le)) refl

new_below : (T : Table) (limit : ℕ) (r : PlainRow) (x : PlainTask) (parent : Option Part) (key : Option DatonAt) → rank T x < rank T r.task → x.limit ≤ limit
    → weight T limit (new_row x parent key) < cost_below limit (rank T r.task)
new_below T limit r x parent key lower le =
    let new = new_weight T limit x parent key le in
    let up = cost_rises limit (suc (rank T x)) (rank T r.task) (omega (arith, lower)) in
    omega (arith, new, up)

-- one idle part less, where one that was idle is asked or got
one_less : (ps : List PartState) (i : ℕ) (y : PartState) → state_at ps i ≡ idle → i < length ps → idle_one y ≡ 0
    → suc (sum_by idle_one (slice_set ps i y)) ≡ sum_by idle_one ps
one_less [] i y e l z = absurd (omega (arith, l))
one_less (p ∷ ps) zero y e l z = ap suc (sum_by-cons idle_one y ps) ∙ go (idle_one y) (idle_one p) (sum_by idle_one ps) z (ap idle_one e)
    ∙ sym (sum_by-cons idle_one p ps)
  where
    go : (a b n : ℕ) → a ≡ 0 → b ≡ 1 → suc (a + n) ≡ b + n
    go a b n z o = omega (arith, z, o)
one_less (p ∷ ps) (suc i) y e l z =
    ap suc (sum_by-cons idle_one p (slice_set ps i y))
    ∙ go (idle_one p) (sum_by idle_one (slice_set ps i y)) (sum_by idle_one ps) (one_less ps i y e (omega (arith, l)) z)
    ∙ sym (sum_by-cons idle_one p ps)
  where
    go : (a n m : ℕ) → suc n ≡ m → suc (a + n) ≡ a + m
    go a n m h = omega (arith, h)

-- as many as before, where one that was asked is got
as_many : (ps : List PartState) (i slot : ℕ) (v : PlainValue) → state_at ps i ≡ asked slot → sum_by idle_one (slice_set ps i (got v)) ≡ sum_by idle_one ps
as_many [] i slot v e = refl
as_many (p ∷ ps) zero slot v e = sum_by-cons idle_one (got v) ps ∙ ap (λ n. n + sum_by idle_one ps) (sym (ap idle_one e)) ∙ sym (sum_by-cons idle_one p ps)
as_many (p ∷ ps) (suc i) slot v e = sum_by-cons idle_one p (slice_set ps i (got v)) ∙ ap (λ n. idle_one p + n) (as_many ps i slot v e)
    ∙ sym (sum_by-cons idle_one p ps)

-- an idle part is asked: the row and the new one that it waits for cost less than the row did
pub asking_falls : (T : Table) (limit : ℕ) (r : PlainRow) (i slot : ℕ) (x : PlainTask) (parent : Option Part) (key : Option DatonAt) → state_at r.parts i ≡ idle
    → i < length r.parts
    → rank T x < rank T r.task → x.limit ≤ limit → weight T limit (with_part i (asked slot) r) + weight T limit (new_row x parent key) < weight T limit r
asking_falls T limit r i slot x parent key free few lower le =
    let new = new_below T limit r x parent key lower le in
    let less = one_less r.parts i (asked slot) free few refl in
    go (cost_below limit (rank T r.task)) ((r.task.limit - r.cursor.time) * (3 * cost_below limit (rank T r.task) + 1))
    (sum_by idle_one (slice_set r.parts i (asked slot)))
    (sum_by idle_one r.parts) (weight T limit (new_row x parent key)) less new
  where
    go : (part own n m w : ℕ) → suc n ≡ m → w < part → 1 + n * part + own + w < 1 + m * part + own
    go part own n m w e l = subst (λ k. 1 + n * part + own + w < 1 + k * part + own) e (grind (arith, l))

-- an idle part gets a value
pub giving_falls : (T : Table) (limit : ℕ) (r : PlainRow) (i : ℕ) (v : PlainValue) → state_at r.parts i ≡ idle → i < length r.parts
    → weight T limit (with_part i (got v) r) < weight T limit r
giving_falls T limit r i v free few =
    let less = one_less r.parts i (got v) free few refl in
    go (cost_below limit (rank T r.task)) ((r.task.limit - r.cursor.time) * (3 * cost_below limit (rank T r.task) + 1))
    (sum_by idle_one (slice_set r.parts i (got v)))
    (sum_by idle_one r.parts) less (cost_some limit (rank T r.task))
  where
    go : (part own n m : ℕ) → suc n ≡ m → 0 < part → 1 + n * part + own < 1 + m * part + own
    go part own n m e l = subst (λ k. 1 + n * part + own < 1 + k * part + own) e (grind (arith, l))

-- a part that was asked gets a value: the row costs what it did
pub given_weight : (T : Table) (limit : ℕ) (r : PlainRow) (i slot : ℕ) (v : PlainValue) → state_at r.parts i ≡ asked slot
    → weight T limit (with_part i (got v) r) ≡ weight T limit r
given_weight T limit r i slot v e =
    ap (λ n. 1 + n * cost_below limit (rank T r.task) + (r.task.limit - r.cursor.time) * (3 * cost_below limit (rank T r.task) + 1))
    (as_many r.parts i slot v e)

-- a search goes on below its limit
pub moving_falls : (T : Table) (limit : ℕ) (r : PlainRow) (c : Cursor) → length r.parts ≡ 3 → r.cursor.time < r.task.limit → r.cursor.time < c.time
    → weight T limit (at_cursor c r) < weight T limit r
moving_falls T limit r c three before later =
    go (cost_below limit (rank T r.task)) (sum_by idle_one r.parts) (r.task.limit - c.time) (r.task.limit - r.cursor.time) (omega (arith, before, later))
  where
    go : (part n a b : ℕ) → a < b → 1 + 3 * part + a * (3 * part + 1) < 1 + n * part + b * (3 * part + 1)
    go part n a b l =
        let m = mul-le-mul_right {m = suc a} {n = b} (3 * part + 1) (omega (arith, l)) in
        let s : suc a * (3 * part + 1) ≡ (3 * part + 1) + a * (3 * part + 1) = grind arith in
        omega (arith, m, s)

-- a search begins at a later cursor
pub beginning_raises_nothing : (T : Table) (limit : ℕ) (r : PlainRow) (c : Cursor) → r.parts ≡ all_idle → r.cursor.time ≤ c.time
    → weight T limit (at_cursor c r) ≤ weight T limit r
beginning_raises_nothing T limit r c free later =
    let three : sum_by idle_one r.parts ≡ 3 = ap (λ ps. sum_by idle_one ps) free in
    go (cost_below limit (rank T r.task)) (sum_by idle_one r.parts) (r.task.limit - c.time) (r.task.limit - r.cursor.time) three (omega (arith, later))
  where
    go : (part n a b : ℕ) → n ≡ 3 → a ≤ b → 1 + 3 * part + a * (3 * part + 1) ≤ 1 + n * part + b * (3 * part + 1)
    go part n a b e l =
        let m = mul-le-mul_right {m = a} {n = b} (3 * part + 1) l in
        subst (λ k. 1 + 3 * part + a * (3 * part + 1) ≤ 1 + k * part + b * (3 * part + 1)) (sym e) (omega (arith, m))
