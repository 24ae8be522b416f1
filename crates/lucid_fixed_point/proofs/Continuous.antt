-- What trees denote preserves unions of chains.
use Rattle.lucid_fixed_point.proofs.Common.{◌≡◌, ℕ, zero, suc, ◌≤◌, Bool, true, false, List, Option, Some, None, nat_le, if◌then◌else◌, refl, subst, arith, nat_tests, PlainValue, Head, PlainTree, form, name, call, block, PlainTrees, no_trees, tree, PlainDefs, no_defs, defines, defines_function, defines_current, plan, Reader, frozen_at, same_name, param, Keeps, Stream, Streams, Map, Meanings, no_map, no_stream, operator, chosen, numbered_or, with_stream, with_map, with_arguments, frozen, iterate, least, MeaningsWithin, IsChain, MeaningsApproached, IsChainOfMeanings, denotation, denotations, equations}
use Rattle.lucid_tree.proofs.RunsMeant.{run-meant}
use Rattle.lucid_fixed_point.specs.Order.{Approached, EachApproached, MapApproached}
use Rattle.lucid_fixed_point.proofs.Chains.{chain-up}
use Rattle.lucid_fixed_point.proofs.Monotone.{denotations-grow, equations-grow, iterate-grows, least-grows, with_arguments-within}

-- A reader whose values are each in some stream of a chain, cut to those that are in the n-th.
kept : Bool → PlainValue → Option PlainValue
kept b w = if b then Some w else None

cut : ℕ → (o : Option PlainValue) → ((w : PlainValue) → o ≡ Some w → ℕ) → Option PlainValue
unfolding kept
cut n None h = None
cut n (Some w) h = kept (nat_le (h w refl) n) w

kept-grows : (k n : ℕ) (w v : PlainValue) → kept (nat_le k n) w ≡ Some v → kept (nat_le k (suc n)) w ≡ Some v
unfolding kept
kept-grows k n w v e = grind (arith, nat_tests, e)

cut-grows : (n : ℕ) (o : Option PlainValue) (h : (w : PlainValue) → o ≡ Some w → ℕ) → Keeps (cut n o h) (cut (suc n) o h)
unfolding cut
cut-grows n None h v e = e
cut-grows n (Some w) h v e = kept-grows (h w refl) n w v e

kept-there : (n : ℕ) (w : PlainValue) → kept (nat_le n n) w ≡ Some w
unfolding kept
kept-there n w = grind (arith, nat_tests)

cut-there : (o : Option PlainValue) (h : (w : PlainValue) → o ≡ Some w → ℕ) (v : PlainValue) → o ≡ Some v → (n : ℕ) × (cut n o h ≡ Some v)
unfolding cut
cut-there None h v e = absurd (grind arith)
cut-there (Some w) h v e = (h w refl, subst (λ x. kept (nat_le (h w refl) (h w refl)) w ≡ x) e (kept-there (h w refl) w))

kept-le : (k n : ℕ) (w v : PlainValue) → kept (nat_le k n) w ≡ Some v → k ≤ n
unfolding kept
kept-le k n w v e = grind (arith, nat_tests, e)

kept-is : (b : Bool) (w v : PlainValue) → kept b w ≡ Some v → w ≡ v
unfolding kept
kept-is true w v e = grind arith
kept-is false w v e = absurd (grind arith)

cut-read : (P : ℕ → PlainValue → Type 0) → ((k n : ℕ) → k ≤ n → (w : PlainValue) → P k w → P n w) → (n : ℕ) (o : Option PlainValue)
    (h : (w : PlainValue) → o ≡ Some w → (k : ℕ) × P k w) (v : PlainValue) → cut n o (λ w e. (h w e).0) ≡ Some v → P n v
unfolding cut
cut-read P up n None h v e = absurd (grind arith)
cut-read P up n (Some w) h v e =
    subst (λ x. P n x) (kept-is (nat_le (h w refl).0 n) w v e) (up (h w refl).0 n (kept-le (h w refl).0 n w v e) w (h w refl).1)

pub operator-continuous : (f : Head) (a : ℕ → Streams) (b : Streams) → IsChain a → EachApproached a b → Approached (λ k. operator f (a k)) (operator f b)
operator-continuous f a b up near t s v d =
    let from : (i u r : ℕ) (w : PlainValue) → d.reader i u r ≡ Some w → (k : ℕ) × a k i u r w = λ i u r w e. near i u r w (d.reads i u r w e) in
    let readers : ℕ → Reader (Option PlainValue) = λ n i u r. cut n (d.reader i u r) (λ w e. (from i u r w e).0) in
    let found = run-meant readers (λ n i u r. cut-grows n (d.reader i u r) (λ w e. (from i u r w e).0)) d.reader
    (λ i u r w e. cut-there (d.reader i u r) (λ w e. (from i u r w e).0) w e) (plan d.limit f t s) v d.value in (
      found.0,
      record {
        limit = d.limit;
        reader = readers found.0;
        reads = λ i u r w e. cut-read (λ k x. a k i u r x) (λ k n l x o. chain-up a up k n l i u r x o) found.0 (d.reader i u r) (from i u r) w e;
        value = found.1;
      },
    )

chosen-near : (c : Bool) (a a' : ℕ → Stream) (b b' : Stream) → Approached a b → Approached a' b' → Approached (λ k. chosen c (a k) (a' k)) (chosen c b b')
chosen-near true a a' b b' h k = h
chosen-near false a a' b b' h k = k

chosen-map-near : (c : Bool) (f f' : ℕ → Map) (g g' : Map) → MapApproached f g → MapApproached f' g' → MapApproached (λ k. chosen c (f k) (f' k)) (chosen c g g')
chosen-map-near true f f' g g' h k = h
chosen-map-near false f f' g g' h k = k

number-near : (o : Option ℕ) (a : ℕ → Streams) (b : Streams) (x : ℕ → Stream) (y : Stream) → EachApproached a b → Approached x y
    → Approached (λ k. numbered_or o (a k) (x k)) (numbered_or o b y)
number-near None a b x y h k = k
number-near (Some i) a b x y h k = h i

number-map-near : (o : Option ℕ) (f : ℕ → Map) (g : Map) → MapApproached f g
    → MapApproached (λ k. numbered_or o (λ i. no_map) (f k)) (numbered_or o (λ i. no_map) g)
number-map-near None f g h = h
number-map-near (Some i) f g h = λ a b up near t s v d. absurd d

no-map-near : MapApproached (λ k. no_map) no_map
no-map-near a b up near t s v d = absurd d

no-stream-near : Approached (λ k. no_stream) no_stream
no-stream-near t s v d = absurd d

with_stream-near : (x : List ℕ) (a : ℕ → Stream) (b : Stream) (q : ℕ → Meanings) (r : Meanings) → Approached a b → MeaningsApproached q r
    → MeaningsApproached (λ k. with_stream x (a k) (q k)) (with_stream x b r)
with_stream-near x a b q r h k =
    record {
      streams = λ n. chosen-near (same_name n x) a (λ j. (q j).stream n) b (r.stream n) h (k.streams n);
      maps = λ n. chosen-map-near (same_name n x) (λ j. no_map) (λ j. (q j).map n) no_map (r.map n) no-map-near (k.maps n);
    }

with_map-near : (x : List ℕ) (f : ℕ → Map) (g : Map) (q : ℕ → Meanings) (r : Meanings) → MapApproached f g → MeaningsApproached q r
    → MeaningsApproached (λ k. with_map x (f k) (q k)) (with_map x g r)
with_map-near x f g q r h k =
    record {
      streams = λ n. chosen-near (same_name n x) (λ j. no_stream) (λ j. (q j).stream n) no_stream (r.stream n) no-stream-near (k.streams n);
      maps = λ n. chosen-map-near (same_name n x) f (λ j. (q j).map n) g (r.map n) h (k.maps n);
    }

pub with_arguments-near : (ns : List (List ℕ)) (a : ℕ → Streams) (b : Streams) (q : ℕ → Meanings) (r : Meanings) → EachApproached a b
    → MeaningsApproached q r → MeaningsApproached (λ k. with_arguments ns (a k) (q k)) (with_arguments ns b r)
with_arguments-near ns a b q r h k =
    record {
      streams = λ n. number-near (param n ns) a b (λ j. (q j).stream n) (r.stream n) h (k.streams n);
      maps = λ n. number-map-near (param n ns) (λ j. (q j).map n) (r.map n) (k.maps n);
    }

frozen-near : (z : Option ℕ) (a : ℕ → Stream) (b : Stream) → Approached a b → Approached (λ k. frozen z (a k)) (frozen z b)
frozen-near None a b h t s v d = absurd d
frozen-near (Some u) a b h t s v d = h _ s v d

-- The iterates of steps that go on from chains to chains.
module _ (f : ℕ → Meanings → Meanings) (g : Meanings → Meanings)
    (grows : (k : ℕ) (x y : Meanings) → MeaningsWithin x y → MeaningsWithin (f k x) (f (suc k) y))
    (near : (x : ℕ → Meanings) (y : Meanings) → IsChainOfMeanings x → MeaningsApproached x y → MeaningsApproached (λ k. f k (x k)) (g y)) where
  pub iterates-near : (j : ℕ) → MeaningsApproached (λ k. iterate (f k) j) (iterate g j)
  iterates-near zero = record { streams = λ n. no-stream-near; maps = λ n. no-map-near }
  iterates-near (suc j) = near (λ k. iterate (f k) j) (iterate g j) (λ k. iterate-grows (f k) (f (suc k)) (grows k) j) (iterates-near j)

  pub least-near : MeaningsApproached (λ k. least (f k)) (least g)
  least-near =
      record {
        streams = λ n t s v d. let o = (iterates-near d.0).streams n t s v d.1 in (o.0, (d.0, o.1));
        maps = λ n a b up l t s v d. let o = (iterates-near d.0).maps n a b up l t s v d.1 in (o.0, (d.0, o.1));
      }

mutual
  pub denotation-near : (e : PlainTree) (q : ℕ → Meanings) (r : Meanings) → IsChainOfMeanings q → MeaningsApproached q r → Approached (λ k. denotation e (q k)) (denotation e r)
  denotation-near (form at f es) q r up h =
      operator-continuous f (λ k. denotations es (q k)) (denotations es r) (λ k. denotations-grow es (q k) (q (suc k)) (up k)) (denotations-near es q r up h)
  denotation-near (name at n) q r up h = h.streams n
  denotation-near (call at n es) q r up h = h.maps n (λ k. denotations es (q k)) (denotations es r) (λ k. denotations-grow es (q k) (q (suc k)) (up k)) (denotations-near es q r up h)
  denotation-near (block at e ds) q r up h = λ t s v d.
      denotation-near e (λ k. least (equations ds (frozen_at ds t) (q k))) (least (equations ds (frozen_at ds t) r))
      (λ k. least-grows (equations ds (frozen_at ds t) (q k)) (equations ds (frozen_at ds t) (q (suc k)))
      (equations-grow ds (frozen_at ds t) (q k) (q (suc k)) (up k)))
      (least-near (λ k. equations ds (frozen_at ds t) (q k)) (equations ds (frozen_at ds t) r)
      (λ k. equations-grow ds (frozen_at ds t) (q k) (q (suc k)) (up k)) (equations-near ds (frozen_at ds t) q r up h)) t s v d

  pub denotations-near : (es : PlainTrees) (q : ℕ → Meanings) (r : Meanings) → IsChainOfMeanings q → MeaningsApproached q r
      → EachApproached (λ k. denotations es (q k)) (denotations es r)
  denotations-near no_trees q r up h i = no-stream-near
  denotations-near (tree e es) q r up h zero = denotation-near e q r up h
  denotations-near (tree e es) q r up h (suc i) = denotations-near es q r up h i

  pub equations-near : (ds : PlainDefs) (z : Option ℕ) (q : ℕ → Meanings) (r : Meanings) → IsChainOfMeanings q → MeaningsApproached q r
      → (x : ℕ → Meanings) (y : Meanings) → IsChainOfMeanings x → MeaningsApproached x y
      → MeaningsApproached (λ k. equations ds z (q k) (x k)) (equations ds z r y)
  equations-near no_defs z q r up h x y upx k = h
  equations-near (defines at n e ds) z q r up h x y upx k =
      with_stream-near n (λ j. denotation e (x j)) (denotation e y) (λ j. equations ds z (q j) (x j)) (equations ds z r y) (denotation-near e x y upx k)
      (equations-near ds z q r up h x y upx k)
  equations-near (defines_function at n ns ats e ds) z q r up h x y upx k =
      with_map-near n (λ j a. denotation e (with_arguments ns a (x j))) (λ a. denotation e (with_arguments ns a y)) (λ j. equations ds z (q j) (x j))
      (equations ds z r y)
      (λ a b upa l. denotation-near e (λ j. with_arguments ns (a j) (x j)) (with_arguments ns b y)
      (λ j. with_arguments-within ns (a j) (a (suc j)) (x j) (x (suc j)) (upa j) (upx j)) (with_arguments-near ns a b x y l k))
      (equations-near ds z q r up h x y upx k)
  equations-near (defines_current at n e ds) z q r up h x y upx k =
      with_stream-near n (λ j. frozen z (denotation e (q j))) (frozen z (denotation e r)) (λ j. equations ds z (q j) (x j)) (equations ds z r y)
      (frozen-near z (λ j. denotation e (q j)) (denotation e r) (denotation-near e q r up h)) (equations-near ds z q r up h x y upx k)
