-- The operator of `upon`, said of streams: a count of true values.
use Rattle.lucid_fixed_point.proofs.Common.{◌≡◌, ℕ, zero, suc, ◌<◌, ◌↔◌, Bool, true, false, Option, Some, None, nat_le, if◌then◌else◌, refl, sym, subst, arith, nat_tests, PlainValue, truth, eod, fault, Plan, nothing, by_test, run, Reader, run-keeps, within_itself, Streams, operator, on_true, on_false, ends, fails, IsNoTruth, upon, Advance}
use Rattle.lucid_tree.specs.Rows.{count_true}
use Rattle.lucid_fixed_point.proofs.Readers.{put, put-is, put-reads, put-keeps, put-fresh, other-time, other-parts, no_values, no-values, no-values-read}
use Rattle.lucid_fixed_point.proofs.Looks.{Ran, looks-up, looks-on, part-ran, first-look}
use Rattle.lucid_fixed_point.proofs.Tests.{test-ran}

module _ (a : Streams) (s l : ℕ) where
  -- from a run to a count
  ran-advanced : (left j n : ℕ) (v : PlainValue) → Ran a (count_true left j n s l) v → Advance a s left j n v
  ran-advanced zero j n v r = (part-ran a 0 n s v).0 r
  ran-advanced (suc k) j n v r =
      let p : Plan = count_true k (suc j) (suc n) s l in
      let q : Plan = count_true k (suc j) n s l in
      let f = first-look a 1 j s l (λ w. by_test w p q) v r in
      test-ran a (a 1 j s) (Advance a s k (suc j) (suc n)) (Advance a s k (suc j) n) p q v f.0 f.1 (ran-advanced k (suc j) (suc n) v)
      (ran-advanced k (suc j) n v) f.2

  -- from a count to a run, by a reader that has nothing of the test before
  record Counted (left j n : ℕ) (v : PlainValue) : Type 0 where
    reader : Reader (Option PlainValue)
    reads : (i u r : ℕ) (w : PlainValue) → reader i u r ≡ Some w → a i u r w
    fresh : (u : ℕ) → u < j → reader 1 u s ≡ None
    runs : run (count_true left j n s l) reader ≡ Some v

  no-truth-runs : (w : PlainValue) → IsNoTruth w → (p q : Plan) (r : Reader (Option PlainValue)) → run (by_test w p q) r ≡ Some fault
  no-truth-runs (truth b) h p q r = absurd h
  no-truth-runs eod h p q r = absurd h
  no-truth-runs w h p q r = refl

  -- one more test in front of what a reader without it runs
  test-counted : (k j n : ℕ) (v w : PlainValue) → a 1 j s w → (q : Reader (Option PlainValue)) → ((i u r : ℕ) (x : PlainValue) → q i u r ≡ Some x → a i u r x)
      → ((u : ℕ) → u < suc j → q 1 u s ≡ None)
      → run (by_test w (count_true k (suc j) (suc n) s l) (count_true k (suc j) n s l)) (put 1 j s w q) ≡ Some v → Counted (suc k) j n v
  test-counted k j n v w d q reads fresh e =
      let p : Reader (Option PlainValue) = put 1 j s w q in record {
        reader = p;
        reads = put-reads a 1 j s w q d reads;
        fresh = λ u h. put-fresh 1 j s w q 1 u s (other-time 1 j s u s h) (fresh u (omega (arith, h)));
        runs = looks-on (p 1 j s) (λ x. by_test x (count_true k (suc j) (suc n) s l) (count_true k (suc j) n s l)) p v w (put-is 1 j s w q) e;
      }

  -- the test before leaves a count as it runs
  still-counts : (k j n : ℕ) (v w : PlainValue) (more : Counted k (suc j) n v) → run (count_true k (suc j) n s l) (put 1 j s w more.reader) ≡ Some v
  still-counts k j n v w more =
      run-keeps (within_itself (count_true k (suc j) n s l)) more.reader (put 1 j s w more.reader)
      (put-keeps 1 j s w more.reader (more.fresh j (omega arith))) v more.runs

  counted : (left j n : ℕ) (v : PlainValue) → Advance a s left j n v → Counted left j n v
  counted zero j n v d =
      let p : Reader (Option PlainValue) = put 0 n s v no_values in record {
        reader = p;
        reads = put-reads a 0 n s v no_values d (no-values-read a);
        fresh = λ u h. put-fresh 0 n s v no_values 1 u s (other-parts 0 n s 1 u s refl) (no-values 1 u s);
        runs = looks-up (p 0 n s) p v (put-is 0 n s v no_values);
      }
  counted (suc k) j n v (on_true d h) =
      let more = counted k (suc j) (suc n) v h in
      test-counted k j n v (truth true) d more.reader more.reads more.fresh (still-counts k j (suc n) v (truth true) more)
  counted (suc k) j n v (on_false d h) =
      let more = counted k (suc j) n v h in test-counted k j n v (truth false) d more.reader more.reads more.fresh (still-counts k j n v (truth false) more)
  counted (suc k) j n v (ends d) = test-counted k j n eod eod d no_values (no-values-read a) (λ u h. no-values 1 u s) refl
  counted (suc k) j n v (fails {w = w} d h) =
      test-counted k j n fault w d no_values (no-values-read a) (λ u h. no-values 1 u s)
      (no-truth-runs w h (count_true k (suc j) (suc n) s l) (count_true k (suc j) n s l) (put 1 j s w no_values))

-- `upon` at a time looks only at a limit of at least the time
if-there : (c : Bool) (p : Plan) (r : Reader (Option PlainValue)) (v : PlainValue) → run (if c then p else nothing) r ≡ Some v → run p r ≡ Some v
if-there true p r v e = e
if-there false p r v e = absurd (grind (arith, e))

at-its-time : (t : ℕ) → nat_le t t ≡ true
at-its-time t = grind (arith, nat_tests)

pub upon-is : (a : Streams) (t s : ℕ) (v : PlainValue) → operator upon a t s v ↔ Advance a s t 0 0 v
upon-is a t s v = (
  (λ d. ran-advanced a s t t 0 0 v (record { reader = d.reader; reads = d.reads; runs = if-there (nat_le t d.limit) (count_true t 0 0 s t) d.reader v d.value })),
  (λ d. let o = counted a s t t 0 0 v d in record {
    limit = t;
    reader = o.reader;
    reads = o.reads;
    value = subst (λ c. run (if c then count_true t 0 0 s t else nothing) o.reader ≡ Some v) (sym (at-its-time t)) o.runs;
  }),
)
