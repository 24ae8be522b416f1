-- Rows that look at one part, and then give a value or look at another: what they give, said of streams.
use Rattle.lucid_fixed_point.proofs.Common.{◌≡◌, ℕ, ◌≤◌, Bool, true, false, Option, Some, nat_eq, nat_le, if◌then◌else◌, refl, sym, subst, arith, nat_tests, PlainValue, pos, truth, eod, fault, Plan, gives, gives_part, look, by_test, by_place, only_truth, last, run, Reader, Streams, Values, Tested, on_true, on_false, ends, fails, IsNoTruth, AsTruth, Placed}
use Rattle.lucid_value.specs.Plain.{int}
use Rattle.lucid_fixed_point.specs.Tests.{IsNoPlace, there, ended, nowhere}
use Rattle.lucid_fixed_point.proofs.Looks.{Ran, looks-up, looks-on, value-ran, first-look, look-then-value, look-then-part}

module _ (a : Streams) where
  -- from a run to what the parts have
  pub test-ran : (test on off : Values) (p q : Plan) (v w : PlainValue) → test w → (Ran a p v → on v) → (Ran a q v → off v) → Ran a (by_test w p q) v
      → Tested test on off v
  test-ran test on off p q v (truth true) d h k r = on_true d (h r)
  test-ran test on off p q v (truth false) d h k r = on_false d (k r)
  test-ran test on off p q v eod d h k r = subst (λ x. Tested test on off x) ((value-ran a eod v).0 r) (ends d)
  test-ran test on off p q v w d h k r = subst (λ x. Tested test on off x) ((value-ran a fault v).0 r) (fails d tt)

  number-ran : (place : Values) (at : ℕ → Values) (f : ℕ → Plan) (v : PlainValue) (n : ℕ) → place (int (pos n)) → (Ran a (f n) v → at n v) → (c : Bool)
      → nat_le n last ≡ c → Ran a (if c then f n else gives fault) v → Placed place at v
  number-ran place at f v n d h true e r = there d (grind (arith, nat_tests, e)) (h r)
  number-ran place at f v n d h false e r = subst (λ x. Placed place at x) ((value-ran a fault v).0 r) (nowhere d (grind (arith, nat_tests, e)))

  pub place-ran : (place : Values) (at : ℕ → Values) (f : ℕ → Plan) (v w : PlainValue) → place w → ((n : ℕ) → Ran a (f n) v → at n v) → Ran a (by_place w f) v
      → Placed place at v
  place-ran place at f v (int (pos n)) d h r = number-ran place at f v n d (h n) (nat_le n last) refl r
  place-ran place at f v eod d h r = subst (λ x. Placed place at x) ((value-ran a eod v).0 r) (ended d)
  place-ran place at f v w d h r = subst (λ x. Placed place at x) ((value-ran a fault v).0 r) (nowhere d tt)

  pub truth-ran : (j y z : ℕ) (v : PlainValue) → Ran a (look j y z 0 (λ x. gives (only_truth x))) v → AsTruth (a j y z) v
  truth-ran j y z v r =
      let f = first-look a j y z 0 (λ x. gives (only_truth x)) v r in (f.0, f.1, (value-ran a (only_truth f.0) v).0 f.2)

  -- What a plan gives behind a look at part i: at once, or by a look at another part.
  pub data After (i : ℕ) (p : Plan) (v : PlainValue) : Type 0 where
    at_once : ((r : Reader (Option PlainValue)) → run p r ≡ Some v) → After i p v
    by_part : (j y z : ℕ) (x : PlainValue) → nat_eq j i ≡ false → a j y z x → ((r : Reader (Option PlainValue)) → r j y z ≡ Some x → run p r ≡ Some v)
        → After i p v

  look-goes-on : (i u r l : ℕ) (k : PlainValue → Plan) (v w : PlainValue) → a i u r w → After i (k w) v → Ran a (look i u r l k) v
  look-goes-on i u r l k v w d (at_once h) = look-then-value a i u r l k v w d h
  look-goes-on i u r l k v w d (by_part j y z x off e h) = look-then-part a i u r l k v w d j y z x off e h

  pub value-after : (i : ℕ) (x v : PlainValue) → x ≡ v → After i (gives x) v
  value-after i x v e = at_once (λ r. subst (λ y. Some x ≡ Some y) e refl)

  pub part-after : (i j y z : ℕ) (v : PlainValue) → nat_eq j i ≡ false → a j y z v → After i (gives_part j y z) v
  part-after i j y z v off d = by_part j y z v off d (λ r e. looks-up (r j y z) r v e)

  pub truth-after : (i j y z : ℕ) (v : PlainValue) → nat_eq j i ≡ false → AsTruth (a j y z) v → After i (look j y z 0 (λ x. gives (only_truth x))) v
  truth-after i j y z v off d =
      by_part j y z d.0 off d.1 (λ r e. looks-on (r j y z) (λ x. gives (only_truth x)) r v d.0 e (subst (λ y. Some (only_truth d.0) ≡ Some y) d.2 refl))

  no-truth-after : (i : ℕ) (p q : Plan) (w : PlainValue) → IsNoTruth w → After i (by_test w p q) fault
  no-truth-after i p q (truth c) h = absurd h
  no-truth-after i p q eod h = absurd h
  no-truth-after i p q w h = at_once (λ r. refl)

  pub tested-ran : (i u r : ℕ) (p q : Plan) (on off : Values) → ((v : PlainValue) → on v → After i p v) → ((v : PlainValue) → off v → After i q v) → (v : PlainValue)
      → Tested (a i u r) on off v → Ran a (look i u r 0 (λ w. by_test w p q)) v
  tested-ran i u r p q on off h k v (on_true d e) = look-goes-on i u r 0 (λ w. by_test w p q) v (truth true) d (h v e)
  tested-ran i u r p q on off h k v (on_false d e) = look-goes-on i u r 0 (λ w. by_test w p q) v (truth false) d (k v e)
  tested-ran i u r p q on off h k v (ends d) = look-goes-on i u r 0 (λ w. by_test w p q) eod eod d (at_once (λ x. refl))
  tested-ran i u r p q on off h k v (fails {w = w} d e) = look-goes-on i u r 0 (λ w. by_test w p q) fault w d (no-truth-after i p q w e)

  number-after : (i n : ℕ) (f : ℕ → Plan) (v : PlainValue) → n ≤ last → After i (f n) v → After i (by_place (int (pos n)) f) v
  number-after i n f v l h =
      let e : nat_le n last ≡ true = grind (arith, nat_tests, l) in subst (λ c. After i (if c then f n else gives fault) v) (sym e) h

  far-after : (i n : ℕ) (f : ℕ → Plan) → IsNoPlace (int (pos n)) → After i (by_place (int (pos n)) f) fault
  far-after i n f l =
      let e : nat_le n last ≡ false = grind (arith, nat_tests, l) in subst (λ c. After i (if c then f n else gives fault) fault) (sym e) (at_once (λ r. refl))

  no-place-after : (i : ℕ) (f : ℕ → Plan) (w : PlainValue) → IsNoPlace w → After i (by_place w f) fault
  no-place-after i f (int (pos n)) h = far-after i n f h
  no-place-after i f eod h = absurd h
  no-place-after i f w h = at_once (λ r. refl)

  pub placed-ran : (i u r : ℕ) (f : ℕ → Plan) (at : ℕ → Values) → ((n : ℕ) (v : PlainValue) → at n v → After i (f n) v) → (v : PlainValue)
      → Placed (a i u r) at v → Ran a (look i u r 0 (λ y. by_place y f)) v
  placed-ran i u r f at h v (there {n = n} d l e) = look-goes-on i u r 0 (λ y. by_place y f) v (int (pos n)) d (number-after i n f v l (h n v e))
  placed-ran i u r f at h v (ended d) = look-goes-on i u r 0 (λ y. by_place y f) eod eod d (at_once (λ x. refl))
  placed-ran i u r f at h v (nowhere {w = w} d e) = look-goes-on i u r 0 (λ y. by_place y f) fault w d (no-place-after i f w e)
