-- Searches one time later: what opens a search, and searches in streams of which one is the other from time 1 on.
use Rattle.lucid_fixed_point.proofs.Common.{ℕ, zero, suc, ◌+◌, ◌≤◌, ◌<◌, true, false, arith, PlainValue, truth, eod, Streams, Values, Tested, on_true, on_false, ends, fails, Search, found, past_true, past_false, Advance}
use Rattle.lucid_fixed_point.specs.Search.{ends as search_ends, fails as search_fails}

-- a test of more, with ways on that have more
pub tested-grows : (test test' on on' off off' : Values) → ((w : PlainValue) → test w → test' w) → ((v : PlainValue) → on v → on' v)
    → ((v : PlainValue) → off v → off' v) → (v : PlainValue) → Tested test on off v → Tested test' on' off' v
tested-grows test test' on on' off off' f g h v (on_true d e) = on_true (f (truth true) d) (g v e)
tested-grows test test' on on' off off' f g h v (on_false d e) = on_false (f (truth false) d) (h v e)
tested-grows test test' on on' off off' f g h v (ends d) = ends (f eod d)
tested-grows test test' on on' off off' f g h v (fails {w = w} d e) = fails (f w d) e

-- one at 0, and others one less further on
abbrev pub AtZero : ℕ → Values → (ℕ → Values) → Values
AtZero zero x f = x
AtZero (suc n) x f = f n

pub at-zero-grows : (n : ℕ) (x y : Values) (f g : ℕ → Values) → ((v : PlainValue) → x v → y v) → ((k : ℕ) (v : PlainValue) → f k v → g k v) → (v : PlainValue)
    → AtZero n x f v → AtZero n y g v
at-zero-grows zero x y f g h k v d = h v d
at-zero-grows (suc n) x y f g h k v d = k n v d

module _ (a : Streams) (s : ℕ) where
  pub search-opens : (j n : ℕ) (v : PlainValue) → Search a s j n v
      → Tested (a 1 j s) (AtZero n (a 0 j s) (λ k. Search a s (suc j) k)) (Search a s (suc j) n) v
  search-opens j n v (found d h) = on_true d h
  search-opens j n v (past_true d h) = on_true d h
  search-opens j n v (past_false d h) = on_false d h
  search-opens j n v (search_ends d) = ends d
  search-opens j n v (search_fails d h) = fails d h

  found-or-past : (j n : ℕ) (v : PlainValue) → a 1 j s (truth true) → AtZero n (a 0 j s) (λ k. Search a s (suc j) k) v → Search a s j n v
  found-or-past j zero v d h = found d h
  found-or-past j (suc n) v d h = past_true d h

  pub search-closes : (j n : ℕ) (v : PlainValue) → Tested (a 1 j s) (AtZero n (a 0 j s) (λ k. Search a s (suc j) k)) (Search a s (suc j) n) v
      → Search a s j n v
  search-closes j n v (on_true d h) = found-or-past j n v d h
  search-closes j n v (on_false d h) = past_false d h
  search-closes j n v (ends d) = search_ends d
  search-closes j n v (fails d h) = search_fails d h

-- Searches in two lots of streams, where times go with times: the second test has at a time what the first has at the one that goes with it, and
-- so has what is searched for, where the test is true.
module _ (a b : Streams) (s : ℕ) (Goes : ℕ → ℕ → Type 0) (steps : (i j : ℕ) → Goes i j → Goes (suc i) (suc j))
    (test : (i j : ℕ) → Goes i j → (w : PlainValue) → a 1 i s w → b 1 j s w)
    (value : (i j : ℕ) → Goes i j → (v : PlainValue) → a 1 i s (truth true) → a 0 i s v → b 0 j s v) where
  pub search-moved : (i n : ℕ) (v : PlainValue) → Search a s i n v → (j : ℕ) → Goes i j → Search b s j n v
  search-moved i n v (found d h) j g = found (test i j g (truth true) d) (value i j g v d h)
  search-moved i n v (past_true {n = k} d h) j g = past_true (test i j g (truth true) d) (search-moved (suc i) k v h (suc j) (steps i j g))
  search-moved i n v (past_false d h) j g = past_false (test i j g (truth false) d) (search-moved (suc i) n v h (suc j) (steps i j g))
  search-moved i n v (search_ends d) j g = search_ends (test i j g eod d)
  search-moved i n v (search_fails {w = w} d h) j g = search_fails (test i j g w d) h

-- Counts, where numbers go with numbers too, all below a bound.
module _ (a b : Streams) (s bound : ℕ) (Goes Counts : ℕ → ℕ → Type 0) (steps : (i j : ℕ) → Goes i j → Goes (suc i) (suc j))
    (counts : (i j : ℕ) → Counts i j → Counts (suc i) (suc j)) (test : (i j : ℕ) → Goes i j → i < bound → (w : PlainValue) → a 1 i s w → b 1 j s w)
    (value : (n m : ℕ) → Counts n m → n < bound → (v : PlainValue) → a 0 n s v → b 0 m s v) where
  pub advance-moved : (left i n : ℕ) (v : PlainValue) → left + i ≤ bound → left + n < bound → Advance a s left i n v → (j m : ℕ) → Goes i j → Counts n m
      → Advance b s left j m v
  advance-moved zero i n v l k d j m g c = value n m c (omega (arith, k)) v d
  advance-moved (suc left) i n v l k d j m g c =
      tested-grows (a 1 i s) (b 1 j s) (Advance a s left (suc i) (suc n)) (Advance b s left (suc j) (suc m)) (Advance a s left (suc i) n)
      (Advance b s left (suc j) m) (test i j g (omega (arith, l)))
      (λ w e. advance-moved left (suc i) (suc n) w (omega (arith, l)) (omega (arith, k)) e (suc j) (suc m) (steps i j g) (counts n m c))
      (λ w e. advance-moved left (suc i) n w (omega (arith, l)) (omega (arith, k)) e (suc j) m (steps i j g) c) v d
