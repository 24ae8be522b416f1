-- The operators of `whenever` and `asa`, said of streams: a search for a true value.
use Rattle.lucid_fixed_point.proofs.Common.{◌≡◌, ℕ, zero, suc, ◌<◌, ◌↔◌, true, false, Option, Some, None, refl, sym, subst, arith, PlainValue, Head, Plan, gives_part, plan, run, Reader, run-keeps, Streams, operator, truth, eod, fault, by_test, within_itself, IsNoTruth, Search, found, past_true, past_false}
use Rattle.lucid_tree.specs.Rows.{at_zero, find_true}
use Rattle.lucid_tree.proofs.Shifts.{tested}
use Rattle.lucid_fixed_point.specs.Search.{ends, fails}
use Rattle.lucid_fixed_point.proofs.Looks.{looked, looks-up}
use Rattle.lucid_fixed_point.proofs.Readers.{put, put-is, put-reads, put-keeps, put-fresh, other-time, other-parts, no_values, no-values, no-values-read}

module _ (a : Streams) (s : ℕ) where
  -- from a run to a search
  record Reads (p : Reader (Option PlainValue)) : Type 0 where
    reads : (i u r : ℕ) (w : PlainValue) → p i u r ≡ Some w → a i u r w

  tested-searched : (p : Reader (Option PlainValue)) → Reads p → (j n : ℕ) (v : PlainValue) (w : PlainValue) → a 1 j s w → (on off : Plan)
      → (a 1 j s (truth true) → run on p ≡ Some v → Search a s j n v) → (a 1 j s (truth false) → run off p ≡ Some v → Search a s j n v)
      → run (by_test w on off) p ≡ Some v → Search a s j n v
  tested-searched p k j n v (truth true) d on off h g e = h d e
  tested-searched p k j n v (truth false) d on off h g e = g d e
  tested-searched p k j n v eod d on off h g e = let same : eod ≡ v = grind (arith, e) in subst (λ x. Search a s j n x) same (ends d)
  tested-searched p k j n v w d on off h g e = let same : fault ≡ v = grind (arith, e) in subst (λ x. Search a s j n x) same (fails d tt)

  look-searched : (p : Reader (Option PlainValue)) → Reads p → (j n : ℕ) (v : PlainValue) (o : Option PlainValue) → p 1 j s ≡ o → (on off : Plan)
      → (a 1 j s (truth true) → run on p ≡ Some v → Search a s j n v) → (a 1 j s (truth false) → run off p ≡ Some v → Search a s j n v)
      → tested o on off p ≡ Some v → Search a s j n v
  look-searched p k j n v None d on off h g e = absurd (grind arith)
  look-searched p k j n v (Some w) d on off h g e = tested-searched p k j n v w (k.reads 1 j s w d) on off h g e

  found-searched : (p : Reader (Option PlainValue)) → Reads p → (j n : ℕ) (v : PlainValue) (more : ℕ → Plan) → a 1 j s (truth true)
      → ((k : ℕ) → run (more k) p ≡ Some v → Search a s (suc j) k v) → run (at_zero n (gives_part 0 j s) more) p ≡ Some v → Search a s j n v
  found-searched p k j zero v more d h e = found d (k.reads 0 j s v (looked (p 0 j s) p v e))
  found-searched p k j (suc n) v more d h e = past_true d (h n e)

  run-searched : (p : Reader (Option PlainValue)) → Reads p → (left j n : ℕ) (v : PlainValue) → run (find_true left j n s) p ≡ Some v → Search a s j n v
  run-searched p k zero j n v e = absurd (grind arith)
  run-searched p k (suc left) j n v e =
      look-searched p k j n v (p 1 j s) refl (at_zero n (gives_part 0 j s) (λ m. find_true left (suc j) m s)) (find_true left (suc j) n s)
      (λ d f. found-searched p k j n v (λ m. find_true left (suc j) m s) d (λ m g. run-searched p k left (suc j) m v g) f)
      (λ d f. past_false d (run-searched p k left (suc j) n v f)) e

  -- from a search to a run, by a reader that has nothing of the test before
  record Ran (j n : ℕ) (v : PlainValue) : Type 0 where
    limit : ℕ
    reader : Reader (Option PlainValue)
    reads : (i u r : ℕ) (w : PlainValue) → reader i u r ≡ Some w → a i u r w
    fresh : (u : ℕ) → u < j → reader 1 u s ≡ None
    runs : run (find_true limit j n s) reader ≡ Some v

  tested-at : (p : Reader (Option PlainValue)) (o : Option PlainValue) (w : PlainValue) (on off : Plan) (v : PlainValue) → o ≡ Some w
      → run (by_test w on off) p ≡ Some v → tested o on off p ≡ Some v
  tested-at p o w on off v e h = subst (λ x. tested x on off p ≡ Some v) (sym e) h

  no-truth-run : (w : PlainValue) → IsNoTruth w → (on off : Plan) (p : Reader (Option PlainValue)) → run (by_test w on off) p ≡ Some fault
  no-truth-run (truth b) h on off p = absurd h
  no-truth-run eod h on off p = absurd h
  no-truth-run w h on off p = refl

  -- one more test in front
  put-test : (j n : ℕ) (v w : PlainValue) → a 1 j s w → (more : Ran (suc j) n v) → (k : ℕ)
      → run (by_test w (at_zero k (gives_part 0 j s) (λ m. find_true more.limit (suc j) m s)) (find_true more.limit (suc j) k s)) (put 1 j s w more.reader) ≡ Some v
      → Ran j k v
  put-test j n v w d more k e =
      let p : Reader (Option PlainValue) = put 1 j s w more.reader in record {
        limit = suc more.limit;
        reader = p;
        reads = put-reads a 1 j s w more.reader d more.reads;
        fresh = λ u l. put-fresh 1 j s w more.reader 1 u s (other-time 1 j s u s l) (more.fresh u (omega (arith, l)));
        runs = tested-at p (p 1 j s) w (at_zero k (gives_part 0 j s) (λ m. find_true more.limit (suc j) m s)) (find_true more.limit (suc j) k s) v
            (put-is 1 j s w more.reader) e;
      }

  still-runs : (j n : ℕ) (v w : PlainValue) (more : Ran (suc j) n v) → run (find_true more.limit (suc j) n s) (put 1 j s w more.reader) ≡ Some v
  still-runs j n v w more =
      run-keeps (within_itself (find_true more.limit (suc j) n s)) more.reader (put 1 j s w more.reader)
      (put-keeps 1 j s w more.reader (more.fresh j (omega arith))) v more.runs

  -- a test alone, in front of what has values
  put-alone : (j n : ℕ) (v w : PlainValue) (p : Reader (Option PlainValue)) → a 1 j s w → ((i u r : ℕ) (x : PlainValue) → p i u r ≡ Some x → a i u r x)
      → ((u : ℕ) → p 1 u s ≡ None) → run (by_test w (at_zero n (gives_part 0 j s) (λ m. find_true 0 (suc j) m s)) (find_true 0 (suc j) n s)) (put 1 j s w p) ≡ Some v
      → Ran j n v
  put-alone j n v w p d k none e =
      record {
        limit = 1;
        reader = put 1 j s w p;
        reads = put-reads a 1 j s w p d k;
        fresh = λ u l. put-fresh 1 j s w p 1 u s (other-time 1 j s u s l) (none u);
        runs = tested-at (put 1 j s w p) (put 1 j s w p 1 j s) w (at_zero n (gives_part 0 j s) (λ m. find_true 0 (suc j) m s)) (find_true 0 (suc j) n s) v
            (put-is 1 j s w p) e;
      }

  zero-other : (j : ℕ) (w : PlainValue) (p : Reader (Option PlainValue)) (v : PlainValue) → p 0 j s ≡ Some v → p 1 j s ≡ None
      → put 1 j s w p 0 j s ≡ Some v
  zero-other j w p v e h = put-keeps 1 j s w p h 0 j s v e

  search-ran : (j n : ℕ) (v : PlainValue) → Search a s j n v → Ran j n v
  search-ran j n v (found {v = w} d h) =
      let p : Reader (Option PlainValue) = put 0 j s w no_values in
      let none : (u : ℕ) → p 1 u s ≡ None = λ u. put-fresh 0 j s w no_values 1 u s (other-parts 0 j s 1 u s refl) (no-values 1 u s) in
      let q : Reader (Option PlainValue) = put 1 j s (truth true) p in
      put-alone j 0 w (truth true) p d (put-reads a 0 j s w no_values h (no-values-read a)) none
      (looks-up (q 0 j s) q w (zero-other j (truth true) p w (put-is 0 j s w no_values) (none j)))
  search-ran j n v (past_true {n = k} d h) =
      let more = search-ran (suc j) k v h in put-test j k v (truth true) d more (suc k) (still-runs j k v (truth true) more)
  search-ran j n v (past_false d h) =
      let more = search-ran (suc j) n v h in put-test j n v (truth false) d more n (still-runs j n v (truth false) more)
  search-ran j n v (ends d) = put-alone j n eod eod no_values d (no-values-read a) (λ u. no-values 1 u s) refl
  search-ran j n v (fails {w = w} d h) =
      put-alone j n fault w no_values d (no-values-read a) (λ u. no-values 1 u s)
      (no-truth-run w h (at_zero n (gives_part 0 j s) (λ m. find_true 0 (suc j) m s)) (find_true 0 (suc j) n s) (put 1 j s w no_values))

  pub search-is : (f : Head) (t n : ℕ) (v : PlainValue) → ((m : ℕ) → plan m f t s ≡ find_true m 0 n s) → operator f a t s v ↔ Search a s 0 n v
  search-is f t n v h = (
    (λ d. run-searched d.reader (record { reads = d.reads }) d.limit 0 n v (subst (λ p. run p d.reader ≡ Some v) (h d.limit) d.value)),
    (λ d. let o = search-ran 0 n v d in record {
      limit = o.limit;
      reader = o.reader;
      reads = o.reads;
      value = subst (λ p. run p o.reader ≡ Some v) (sym (h o.limit)) o.runs;
    }),
  )
