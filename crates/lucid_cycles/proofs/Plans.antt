-- Plans of judged forms give a value where the parts that they look at have one.
use Rattle.lucid_cycles.proofs.Common.{ℕ, zero, suc, ◌+◌, ◌<◌, true, false, List, [], Option, Some, refl, arith, IsSome, PlainValue, truth, fault, gives, look, Reader, run, by_test}
use Rattle.std.proofs.Common.{None}
use Rattle.lucid_value.specs.Plain.{eod, int, word, text, list}
use Rattle.lucid_tree.specs.Rows.{Plan, looks, single, all_values, add_value, with_values, arguments}

looked : (r : Reader (Option PlainValue)) (k : PlainValue → Plan) (o : Option PlainValue) → IsSome o → ((v : PlainValue) → IsSome (run (k v) r))
    → IsSome (with_values (add_value o (Some [])) None (λ vs. run (single k vs) r))
looked r k None h f = cc
looked r k (Some v) h f = f v

pub run-look : (r : Reader (Option PlainValue)) (i t s l : ℕ) (k : PlainValue → Plan) → IsSome (r i t s) → ((v : PlainValue) → IsSome (run (k v) r))
    → IsSome (run (look i t s l k) r)
run-look r i t s l k h f = looked r k (r i t s) h f

pub run-test : (r : Reader (Option PlainValue)) (v : PlainValue) (on off : Plan) → IsSome (run on r) → IsSome (run off r) → IsSome (run (by_test v on off) r)
run-test r (truth true) on off h g = h
run-test r (truth false) on off h g = g
run-test r (int n) on off h g = refl
run-test r (word n) on off h g = refl
run-test r (text n) on off h g = refl
run-test r (list n) on off h g = refl
run-test r eod on off h g = refl
run-test r fault on off h g = refl

both-some : (o : Option PlainValue) (vs : Option (List PlainValue)) → IsSome o → IsSome vs → IsSome (add_value o vs)
both-some None vs h g = cc
both-some (Some v) None h g = cc
both-some (Some v) (Some vs) h g = refl

pub all-some : (r : Reader (Option PlainValue)) (n i t s : ℕ) → ((j : ℕ) → j < i + n → IsSome (r j t s)) → IsSome (all_values r (arguments n i t s))
all-some r zero i t s h = refl
all-some r (suc n) i t s h = both-some (r i t s) (all_values r (arguments n (suc i) t s)) (h i (omega arith))
    (all-some r n (suc i) t s (λ j l. h j (omega arith)))

with-some : (k : List PlainValue → PlainValue) (r : Reader (Option PlainValue)) (o : Option (List PlainValue)) → IsSome o
    → IsSome (with_values o None (λ vs. run (gives (k vs)) r))
with-some k r None h = cc
with-some k r (Some vs) h = refl

pub run-arguments : (r : Reader (Option PlainValue)) (k : List PlainValue → PlainValue) (n t s : ℕ) → ((j : ℕ) → j < n → IsSome (r j t s))
    → IsSome (run (looks (arguments n 0 t s) (λ vs. gives (k vs))) r)
run-arguments r k n t s h = with-some k r (all_values r (arguments n 0 t s)) (all-some r n 0 t s (λ j l. h j (omega arith)))
