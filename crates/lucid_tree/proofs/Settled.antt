-- What a plan with a value sees is what each plan that goes on further sees.
use Rattle.lucid_tree.proofs.Common.{◌≡◌, ℕ, zero, suc, ◌+◌, ◌≤◌, List, [], ◌∷◌, Option, Some, None, refl, nat_le, nat_lt, if◌then◌else◌, arith, pos, nat_tests, PlainValue, int, truth, fault, Head, const, apply, choose, both, either, first, next, fby, whenever, asa, upon, Look, Plan, gives, nothing, looks, look, single, gives_part, by_test, by_place, at_zero, arguments, find_true, count_true, last, plan, Reader, add_value, all_values, with_values, run, gather, trace}
use Rattle.std.proofs.Common.{Bool, true, false}
use Rattle.lucid_lists.proofs.Numbers.{zero_le}
use Rattle.lucid_tree.specs.Tree.{initial, succ, sby}
use Rattle.lucid_tree.proofs.Plans.{Within, from_nothing, same_value, same_looks, Keeps, all_values-keeps}
use Rattle.lucid_tree.proofs.Traces.{TakesMore}

-- the approximation m takes all of these looks
pub data AllTaken (m : ℕ) : List Look → Type 0 where
  none_taken : AllTaken m []
  one_taken : {l : Look} {ls : List Look} → nat_le l.least m ≡ true → AllTaken m ls → AllTaken m (l ∷ ls)

-- the approximation m takes all looks of the plan, whatever they give
pub data Takes (m : ℕ) : Plan → Type 0 where
  takes_value : {v : PlainValue} → Takes m (gives v)
  takes_nothing : Takes m nothing
  takes_looks : {ls : List Look} {k : List PlainValue → Plan} → AllTaken m ls → ((vs : List PlainValue) → Takes m (k vs)) → Takes m (looks ls k)

takes_single : (m : ℕ) (k : PlainValue → Plan) → ((v : PlainValue) → Takes m (k v)) → (vs : List PlainValue) → Takes m (single k vs)
takes_single m k h [] = takes_nothing
takes_single m k h (v ∷ vs) = h v

takes_look : (m i t s l : ℕ) (k : PlainValue → Plan) → nat_le l m ≡ true → ((v : PlainValue) → Takes m (k v)) → Takes m (look i t s l k)
takes_look m i t s l k h g = takes_looks (one_taken h none_taken) (takes_single m k g)

takes_part : (m i t s : ℕ) → Takes m (gives_part i t s)
takes_part m i t s = takes_look m i t s 0 gives (zero_le m) (λ v. takes_value)

takes_test : (m : ℕ) (v : PlainValue) (p q : Plan) → Takes m p → Takes m q → Takes m (by_test v p q)
takes_test m (truth true) p q a b = a
takes_test m (truth false) p q a b = b
takes_test m _ p q a b = takes_value

takes_if : (m : ℕ) (b : Bool) (p q : Plan) → (b ≡ true → Takes m p) → Takes m q → Takes m (if b then p else q)
takes_if m true p q h k = h refl
takes_if m false p q h k = k

takes_place : (m : ℕ) (v : PlainValue) (k : ℕ → Plan) → ((n : ℕ) → Takes m (k n)) → Takes m (by_place v k)
takes_place m (int (pos n)) k h = takes_if m (nat_le n last) (k n) (gives fault) (λ e. h n) takes_value
takes_place m _ k h = takes_value

takes_zero : (m n : ℕ) (p : Plan) (f : ℕ → Plan) → Takes m p → ((k : ℕ) → Takes m (f k)) → Takes m (at_zero n p f)
takes_zero m zero p f h k = h
takes_zero m (suc n) p f h k = k n

all_arguments : (m n i t s : ℕ) → AllTaken m (arguments n i t s)
all_arguments m zero i t s = none_taken
all_arguments m (suc n) i t s = one_taken (zero_le m) (all_arguments m n (suc i) t s)

takes_find : (m left j n s : ℕ) → left + j ≤ m → Takes m (find_true left j n s)
takes_find m zero j n s h = takes_nothing
takes_find m (suc left) j n s h =
    takes_look m 1 j s (suc j) _ (grind (arith, nat_tests))
    (λ v. takes_test m v _ _ (takes_zero m n (gives_part 0 j s) (λ k. find_true left (suc j) k s) (takes_part m 0 j s)
    (λ k. takes_find m left (suc j) k s (omega arith))) (takes_find m left (suc j) n s (omega arith)))

takes_count : (m left j n s l : ℕ) → nat_le l m ≡ true → Takes m (count_true left j n s l)
takes_count m zero j n s l h = takes_part m 0 n s
takes_count m (suc left) j n s l h =
    takes_look m 1 j s l _ h (λ v. takes_test m v _ _ (takes_count m left (suc j) (suc n) s l h) (takes_count m left (suc j) n s l h))

-- the row of a form at m has no look that m does not take
pub takes_plan : (m : ℕ) (f : Head) (t s : ℕ) → Takes m (plan m f t s)
takes_plan m (const v) t s = takes_value
takes_plan m (apply op n) t s = takes_looks (all_arguments m n 0 t s) (λ vs. takes_value)
takes_plan m choose t s = takes_look m 0 t s 0 _ (zero_le m) (λ c. takes_test m c _ _ (takes_part m 1 t s) (takes_part m 2 t s))
takes_plan m both t s = takes_look m 0 t s 0 _ (zero_le m) (λ c. takes_test m c _ _ (takes_look m 1 t s 0 _ (zero_le m) (λ b. takes_value)) takes_value)
takes_plan m either t s = takes_look m 0 t s 0 _ (zero_le m) (λ c. takes_test m c _ _ takes_value (takes_look m 1 t s 0 _ (zero_le m) (λ b. takes_value)))
takes_plan m first t s = takes_part m 0 0 s
takes_plan m next t s = takes_if m (nat_lt t last) (gives_part 0 (suc t) s) (gives fault) (λ e. takes_part m 0 (suc t) s) takes_value
takes_plan m fby t s = takes_zero m t (gives_part 0 0 s) (λ u. gives_part 1 u s) (takes_part m 0 0 s) (λ u. takes_part m 1 u s)
takes_plan m whenever t s = takes_find m m 0 t s (omega arith)
takes_plan m asa t s = takes_find m m 0 0 s (omega arith)
takes_plan m upon t s = takes_if m (nat_le t m) (count_true t 0 0 s t) nothing (λ e. takes_count m t 0 0 s t e) takes_nothing
takes_plan m initial t s = takes_part m 0 t 0
takes_plan m succ t s = takes_if m (nat_lt s last) (gives_part 0 t (suc s)) (gives fault) (λ e. takes_part m 0 t (suc s)) takes_value
takes_plan m sby t s = takes_zero m s (gives_part 0 t 0) (λ r. gives_part 1 t r) (takes_part m 0 t 0) (λ r. takes_part m 1 t r)
-- at a time or a space that a part gives
takes_plan m _ t s = takes_look m 1 t s 0 _ (zero_le m) (λ y. takes_place m y _ (λ n. takes_part m 0 _ _))

-- both are there where the list is
pub added : (o : Option PlainValue) (r : Option (List PlainValue)) (vs : List PlainValue) → add_value o r ≡ Some vs
    → (v : PlainValue) × (ws : List PlainValue) × (o ≡ Some v) × (r ≡ Some ws)
added None r vs e = absurd (grind arith)
added (Some v) None vs e = absurd (grind arith)
added (Some v) (Some ws) vs e = (v, ws, refl, refl)

-- where every look has a value, and what has a value sees the same, both see the same
gather-same : {A : Type 0} (m n : ℕ) (d : Reader (Option PlainValue)) (see see' : Reader (List A)) → TakesMore m n
    → ((i t s : ℕ) (v : PlainValue) → d i t s ≡ Some v → see i t s ≡ see' i t s) → (ls : List Look) → AllTaken m ls → (vs : List PlainValue)
    → all_values d ls ≡ Some vs → gather m see ls ≡ gather n see' ls
gather-same m n d see see' up h [] f vs e = refl
gather-same m n d see see' up h (l ∷ ls) (one_taken a f) vs e =
    let p = added (d l.part l.time l.space) (all_values d ls) vs e in
    let here : see l.part l.time l.space ≡ see' l.part l.time l.space = h l.part l.time l.space p.0 p.2 in
    let rest : gather m see ls ≡ gather n see' ls = gather-same m n d see see' up h ls f p.1 p.3 in
    rw (a, up l.least a, here, rest) refl

-- a plan that looks has a value only where its looks have
pub defined : (o : Option (List PlainValue)) (f : List PlainValue → Option PlainValue) (v : PlainValue) → with_values o None f ≡ Some v
    → (vs : List PlainValue) × (o ≡ Some vs) × (f vs ≡ Some v)
defined None f v e = absurd (grind arith)
defined (Some vs) f v e = (vs, refl, e)

-- where a plan has a value, and what has a value sees the same, a plan that goes on further sees the same
pub trace-same : {A : Type 0} (m n : ℕ) {p q : Plan} → Within p q → Takes m p → (d d' : Reader (Option PlainValue)) (see see' : Reader (List A)) → TakesMore m n
    → ((i t s : ℕ) → Keeps (d i t s) (d' i t s)) → ((i t s : ℕ) (v : PlainValue) → d i t s ≡ Some v → see i t s ≡ see' i t s) → (v : PlainValue)
    → run p d ≡ Some v → trace m p d see ≡ trace n q d' see'
trace-same m n from_nothing b d d' see see' up k h v e = absurd (grind arith)
trace-same m n same_value b d d' see see' up k h v e = refl
trace-same m n (same_looks {ls = ls} {k = c} {k' = c'} w) (takes_looks f g) d d' see see' up k h v e =
    let p = defined (all_values d ls) (λ vs. run (c vs) d) v e in
    let seen_same : gather m see ls ≡ gather n see' ls = gather-same m n d see see' up h ls f p.0 p.1 in
    let also : all_values d' ls ≡ Some p.0 = all_values-keeps d d' k ls p.0 p.1 in
    let later : trace m (c p.0) d see ≡ trace n (c' p.0) d' see' = trace-same m n (w p.0) (g p.0) d d' see see' up k h v p.2 in
    rw (p.1, also, seen_same, later) refl
