-- Where names mean streams of at most one value at a point, so does what a tree denotes.
use Rattle.lucid_fixed_point.proofs.Common.{◌≡◌, ℕ, zero, suc, max, Bool, true, false, List, [], ◌∷◌, Option, Some, None, sym, subst, arith, PlainValue, Head, PlainTree, form, name, call, block, PlainTrees, no_trees, tree, PlainDefs, no_defs, defines, defines_function, defines_current, Elements, Plan, gives, plan, run, Reader, add_value, Env, empty, scope, args, frozen_at, same_name, param, run-keeps, Stream, Streams, Map, Meanings, no_map, no_stream, operator, chosen, numbered_or, with_arguments, frozen, iterate, least, MeaningsWithin, denotation, denotations, equations, meanings, nothing, all_values, added, defined}
use Rattle.lucid_tree.specs.Rows.{looks, Look}
use Rattle.lucid_tree.proofs.RunsMeant.{plan-up}
use Rattle.lucid_fixed_point.specs.Order.{IsSingle, AreSingle, MapIsSingle, MeaningsAreSingle}
use Rattle.lucid_fixed_point.proofs.Monotone.{equations-grow, with_arguments-within, least-grows}
use Rattle.lucid_fixed_point.proofs.Chains.{names-up, maps-up, within-itself}
use Rattle.lucid_fixed_point.proofs.Solved.{iterate-chain, iterate-monotone, meanings-are-continuous}

-- two readers that never differ give a plan one value
module _ (p q : Reader (Option PlainValue)) (agree : (i u r : ℕ) (v w : PlainValue) → p i u r ≡ Some v → q i u r ≡ Some w → v ≡ w) where
  values-agree : (ls : List Look) (vs ws : List PlainValue) → all_values p ls ≡ Some vs → all_values q ls ≡ Some ws → vs ≡ ws
  values-agree [] vs ws e f = grind (arith, e, f)
  values-agree (l ∷ ls) vs ws e f =
      let a = added (p l.part l.time l.space) (all_values p ls) vs e in
      let b = added (q l.part l.time l.space) (all_values q ls) ws f in
      let head : a.0 ≡ b.0 = agree l.part l.time l.space a.0 b.0 a.2 b.2 in
      let tail : a.1 ≡ b.1 = values-agree ls a.1 b.1 a.3 b.3 in
      let left : add_value (Some a.0) (Some a.1) ≡ Some vs = subst (λ o. add_value o (Some a.1) ≡ Some vs) a.2 (subst (λ o. add_value (p l.part l.time l.space) o ≡ Some vs) a.3 e) in
      let right : add_value (Some b.0) (Some b.1) ≡ Some ws = subst (λ o. add_value o (Some b.1) ≡ Some ws) b.2 (subst (λ o. add_value (q l.part l.time l.space) o ≡ Some ws) b.3 f) in
      grind (arith, head, tail, left, right)

  run-agrees : (k : Plan) (v w : PlainValue) → run k p ≡ Some v → run k q ≡ Some w → v ≡ w
  run-agrees (gives x) v w e f = grind (arith, e, f)
  run-agrees nothing v w e f = absurd (grind arith)
  run-agrees (looks ls k) v w e f =
      let a = defined (all_values p ls) (λ vs. run (k vs) p) v e in
      let b = defined (all_values q ls) (λ vs. run (k vs) q) w f in
      run-agrees (k a.0) v w a.2 (subst (λ vs. run (k vs) q ≡ Some w) (sym (values-agree ls a.0 b.0 a.1 b.1)) b.2)

pub operator-single : (f : Head) → MapIsSingle (operator f)
operator-single f a h t s v w d e =
    let n : ℕ = max d.limit e.limit in
    run-agrees d.reader e.reader (λ i u r x y k l. h i u r x y (d.reads i u r x k) (e.reads i u r y l)) (plan n f t s) v w
    (run-keeps (plan-up d.limit n (omega arith) f t s) d.reader d.reader (λ i u r x k. k) v d.value)
    (run-keeps (plan-up e.limit n (omega arith) f t s) e.reader e.reader (λ i u r x k. k) w e.value)

chosen-single : (c : Bool) (a b : Stream) → IsSingle a → IsSingle b → IsSingle (chosen c a b)
chosen-single true a b h k = h
chosen-single false a b h k = k

chosen-map-single : (c : Bool) (f g : Map) → MapIsSingle f → MapIsSingle g → MapIsSingle (chosen c f g)
chosen-map-single true f g h k = h
chosen-map-single false f g h k = k

number-single : (o : Option ℕ) (a : Streams) (b : Stream) → AreSingle a → IsSingle b → IsSingle (numbered_or o a b)
number-single None a b h k = k
number-single (Some i) a b h k = h i

number-map-single : (o : Option ℕ) (g : Map) → MapIsSingle g → MapIsSingle (numbered_or o (λ i. no_map) g)
number-map-single None g h = h
number-map-single (Some i) g h = λ a k t s v w d e. absurd d

with_arguments-single : (ns : List (List ℕ)) (a : Streams) (q : Meanings) → AreSingle a → MeaningsAreSingle q → MeaningsAreSingle (with_arguments ns a q)
with_arguments-single ns a q h k =
    record {
      streams = λ n. number-single (param n ns) a (q.stream n) h (k.streams n);
      maps = λ n. number-map-single (param n ns) (q.map n) (k.maps n);
    }

frozen-single : (z : Option ℕ) (a : Stream) → IsSingle a → IsSingle (frozen z a)
frozen-single None a h t s v w d e = absurd d
frozen-single (Some u) a h t s v w d e = h _ s v w d e

module _ (f : Meanings → Meanings) (grows : (x y : Meanings) → MeaningsWithin x y → MeaningsWithin (f x) (f y))
    (single : (x : Meanings) → MeaningsWithin x x → MeaningsAreSingle x → MeaningsAreSingle (f x)) where
  iterate-single : (k : ℕ) → MeaningsAreSingle (iterate f k)
  iterate-single zero = record { streams = λ n t s v w d e. absurd d; maps = λ n a h t s v w d e. absurd d }
  iterate-single (suc k) = single (iterate f k) (iterate-monotone f grows k) (iterate-single k)

  least-single : MeaningsAreSingle (least f)
  least-single =
      record {
        streams = λ n t s v w d e.
            let k : ℕ = max d.0 e.0 in
            (iterate-single k).streams n t s v w (names-up (iterate f) (iterate-chain f grows) d.0 k (omega arith) n t s v d.1) (names-up (iterate f) (iterate-chain f grows) e.0 k (omega arith) n t s w e.1);
        maps = λ n a h t s v w d e.
            let k : ℕ = max d.0 e.0 in
            (iterate-single k).maps n a h t s v w (maps-up (iterate f) (iterate-chain f grows) d.0 k (omega arith) n a t s v d.1) (maps-up (iterate f) (iterate-chain f grows) e.0 k (omega arith) n a t s w e.1);
      }

mutual
  pub denotation-single : (e : PlainTree) (r : Meanings) → MeaningsWithin r r → MeaningsAreSingle r → IsSingle (denotation e r)
  denotation-single (form at f es) r m h = operator-single f (denotations es r) (denotations-single es r m h)
  denotation-single (name at n) r m h = h.streams n
  denotation-single (call at n es) r m h = h.maps n (denotations es r) (denotations-single es r m h)
  denotation-single (block at e ds) r m h = λ t s.
      let z : Option ℕ = frozen_at ds t in
      denotation-single e (least (equations ds z r)) (least-grows (equations ds z r) (equations ds z r) (equations-grow ds z r r m))
      (least-single (equations ds z r) (equations-grow ds z r r m) (equations-single ds z r m h)) t s

  denotations-single : (es : PlainTrees) (r : Meanings) → MeaningsWithin r r → MeaningsAreSingle r → AreSingle (denotations es r)
  denotations-single no_trees r m h i = λ t s v w d e. absurd d
  denotations-single (tree e es) r m h zero = denotation-single e r m h
  denotations-single (tree e es) r m h (suc i) = denotations-single es r m h i

  equations-single : (ds : PlainDefs) (z : Option ℕ) (r : Meanings) → MeaningsWithin r r → MeaningsAreSingle r → (x : Meanings) → MeaningsWithin x x
      → MeaningsAreSingle x → MeaningsAreSingle (equations ds z r x)
  equations-single no_defs z r m h x mx k = h
  equations-single (defines at y e ds) z r m h x mx k =
      let more = equations-single ds z r m h x mx k in record {
        streams = λ n. chosen-single (same_name n y) (denotation e x) ((equations ds z r x).stream n) (denotation-single e x mx k) (more.streams n);
        maps = λ n. chosen-map-single (same_name n y) no_map ((equations ds z r x).map n) (λ a h t s v w d e. absurd d) (more.maps n);
      }
  equations-single (defines_function at y ns ats e ds) z r m h x mx k =
      let more = equations-single ds z r m h x mx k in record {
        streams = λ n. chosen-single (same_name n y) no_stream ((equations ds z r x).stream n) (λ t s v w d e. absurd d) (more.streams n);
        maps = λ n. chosen-map-single (same_name n y) (λ a. denotation e (with_arguments ns a x)) ((equations ds z r x).map n)
            (λ a l. denotation-single e (with_arguments ns a x) (with_arguments-within ns a a x x (λ i t s v d. d) mx) (with_arguments-single ns a x l k))
            (more.maps n);
      }
  equations-single (defines_current at y e ds) z r m h x mx k =
      let more = equations-single ds z r m h x mx k in record {
        streams = λ n. chosen-single (same_name n y) (frozen z (denotation e r)) ((equations ds z r x).stream n) (frozen-single z (denotation e r) (denotation-single e r m h))
            (more.streams n);
        maps = λ n. chosen-map-single (same_name n y) no_map ((equations ds z r x).map n) (λ a h t s v w d e. absurd d) (more.maps n);
      }

pub meanings-are-single : (b : Elements) (env : Env) → MeaningsAreSingle (meanings b env)
meanings-are-single b empty = record { streams = λ n t s v w d e. grind (arith, d, e); maps = λ n a h t s v w d e. absurd d }
meanings-are-single b (scope ds z rest) =
    let m = within-itself (meanings b rest) (meanings-are-continuous b rest).monotone in
    let r : Meanings = meanings b rest in
    least-single (equations ds z r) (equations-grow ds z r r m) (equations-single ds z r m (meanings-are-single b rest))
meanings-are-single b (args ns ats es caller rest) =
    with_arguments-single ns (denotations es (meanings b caller)) (meanings b rest)
    (denotations-single es (meanings b caller) (within-itself (meanings b caller) (meanings-are-continuous b caller).monotone) (meanings-are-single b caller)) (meanings-are-single b rest)
