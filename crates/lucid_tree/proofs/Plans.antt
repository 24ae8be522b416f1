-- The plans of a greater approximation go on where those of a less one end, and give the same values.
use Rattle.lucid_tree.proofs.Common.{◌≡◌, ℕ, zero, suc, List, [], ◌∷◌, Option, Some, None, refl, nat_le, if◌then◌else◌, arith, nat_tests, PlainValue, truth, Head, const, whenever, asa, upon, Look, Plan, gives, nothing, looks, single, gives_part, by_test, at_zero, find_true, count_true, plan, Reader, all_values, add_value, with_values, run}
use Rattle.std.proofs.Common.{Bool, true, false}

-- the second plan is the first, or goes on where the first has nothing
pub data Within : Plan → Plan → Type 0 where
  from_nothing : {q : Plan} → Within nothing q
  same_value : {v : PlainValue} → Within (gives v) (gives v)
  same_looks : {ls : List Look} {k k' : List PlainValue → Plan} → ((vs : List PlainValue) → Within (k vs) (k' vs)) → Within (looks ls k) (looks ls k')

pub within_itself : (p : Plan) → Within p p
within_itself (gives v) = same_value
within_itself nothing = from_nothing
within_itself (looks ls k) = same_looks (λ vs. within_itself (k vs))

-- the second has every value that the first has
abbrev pub Keeps : {A : Type 0} → Option A → Option A → Type 0
Keeps {A = A} o o' = (x : A) → o ≡ Some x → o' ≡ Some x

pub add_value-keeps : (o o' : Option PlainValue) (r r' : Option (List PlainValue)) → Keeps o o' → Keeps r r' → Keeps (add_value o r) (add_value o' r')
add_value-keeps None o' r r' h hs x e = absurd (grind arith)
add_value-keeps (Some v) o' None r' h hs x e = absurd (grind arith)
add_value-keeps (Some v) o' (Some vs) r' h hs x e = rw (h v refl, hs vs refl) e

pub all_values-keeps : (p p' : Reader (Option PlainValue)) → ((i t s : ℕ) → Keeps (p i t s) (p' i t s)) → (ls : List Look)
    → Keeps (all_values p ls) (all_values p' ls)
all_values-keeps p p' h [] x e = e
all_values-keeps p p' h (l ∷ ls) x e =
    add_value-keeps (p l.part l.time l.space) (p' l.part l.time l.space) (all_values p ls) (all_values p' ls) (h l.part l.time l.space)
    (all_values-keeps p p' h ls) x e

pub with_values-keeps : (o o' : Option (List PlainValue)) (f f' : List PlainValue → Option PlainValue) → Keeps o o'
    → ((vs : List PlainValue) → Keeps (f vs) (f' vs)) → Keeps (with_values o None f) (with_values o' None f')
with_values-keeps None o' f f' h hf x e = absurd (grind arith)
with_values-keeps (Some vs) o' f f' h hf x e = rw (h vs refl) (hf vs x e)

pub run-keeps : {p q : Plan} → Within p q → (r r' : Reader (Option PlainValue)) → ((i t s : ℕ) → Keeps (r i t s) (r' i t s)) → Keeps (run p r) (run q r')
run-keeps from_nothing r r' h x e = absurd (grind arith)
run-keeps same_value r r' h x e = e
run-keeps (same_looks {ls = ls} {k = k} {k' = k'} w) r r' h x e =
    with_values-keeps (all_values r ls) (all_values r' ls) (λ vs. run (k vs) r) (λ vs. run (k' vs) r') (all_values-keeps r r' h ls)
    (λ vs. run-keeps (w vs) r r' h) x e

pub by_test-within : (v : PlainValue) {p p' q q' : Plan} → Within p p' → Within q q' → Within (by_test v p q) (by_test v p' q')
by_test-within (truth true) a b = a
by_test-within (truth false) a b = b
by_test-within _ a b = same_value

pub at_zero-within : (n : ℕ) (p : Plan) (f f' : ℕ → Plan) → ((k : ℕ) → Within (f k) (f' k)) → Within (at_zero n p f) (at_zero n p f')
at_zero-within zero p f f' h = within_itself p
at_zero-within (suc n) p f f' h = h n

pub single-within : (f f' : PlainValue → Plan) → ((v : PlainValue) → Within (f v) (f' v)) → (vs : List PlainValue) → Within (single f vs) (single f' vs)
single-within f f' h [] = from_nothing
single-within f f' h (v ∷ vs) = h v

-- one more time to look at
pub find-grows : (left j n s : ℕ) → Within (find_true left j n s) (find_true (suc left) j n s)
find-grows zero j n s = from_nothing
find-grows (suc left) j n s =
    same_looks
    (single-within _ _
    (λ v. by_test-within v (at_zero-within n (gives_part 0 j s) (λ k. find_true left (suc j) k s) (λ k. find_true (suc left) (suc j) k s)
    (λ k. find-grows left (suc j) k s)) (find-grows left (suc j) n s)))

pub if-within : (b b' : Bool) (p : Plan) → (b ≡ true → b' ≡ true) → Within (if b then p else nothing) (if b' then p else nothing)
if-within true b' p h = rw (h refl) (within_itself p)
if-within false b' p h = from_nothing

pub nat_le-suc : (t m : ℕ) → nat_le t m ≡ true → nat_le t (suc m) ≡ true
nat_le-suc t m e = grind (arith, nat_tests)

-- a form's row at one more
pub plan-grows : (m : ℕ) (f : Head) (t s : ℕ) → Within (plan m f t s) (plan (suc m) f t s)
plan-grows m whenever t s = find-grows m 0 t s
plan-grows m asa t s = find-grows m 0 0 s
plan-grows m upon t s = if-within (nat_le t m) (nat_le t (suc m)) (count_true t 0 0 s t) (nat_le-suc t m)
plan-grows m (const v) t s = same_value
plan-grows m _ t s = within_itself _
