-- What trees denote grows with what names mean.
use Rattle.lucid_fixed_point.proofs.Common.{ℕ, zero, suc, Bool, true, false, List, Option, Some, None, Head, PlainTree, form, name, call, block, PlainTrees, no_trees, tree, PlainDefs, no_defs, defines, defines_function, defines_current, frozen_at, same_name, param, Stream, Streams, Map, Meanings, no_map, no_stream, operator, chosen, numbered_or, with_stream, with_map, with_arguments, frozen, iterate, least, Within, EachWithin, MeaningsWithin, denotation, denotations, equations, MapWithin}

pub operator-grows : (f : Head) (a b : Streams) → EachWithin a b → Within (operator f a) (operator f b)
operator-grows f a b h t s v d =
    record { limit = d.limit; reader = d.reader; reads = λ i u r w k. h i u r w (d.reads i u r w k); value = d.value }

pub chosen-within : (c : Bool) (a b a' b' : Stream) → Within a a' → Within b b' → Within (chosen c a b) (chosen c a' b')
chosen-within true a b a' b' h k = h
chosen-within false a b a' b' h k = k

pub chosen-map-within : (c : Bool) (f g f' g' : Map) → MapWithin f f' → MapWithin g g' → MapWithin (chosen c f g) (chosen c f' g')
chosen-map-within true f g f' g' h k = h
chosen-map-within false f g f' g' h k = k

pub number-within : (o : Option ℕ) (a a' : Streams) (b b' : Stream) → EachWithin a a' → Within b b' → Within (numbered_or o a b) (numbered_or o a' b')
number-within None a a' b b' h k = k
number-within (Some i) a a' b b' h k = h i

pub number-map-within : (o : Option ℕ) (g g' : Map) → MapWithin g g' → MapWithin (numbered_or o (λ i. no_map) g) (numbered_or o (λ i. no_map) g')
number-map-within None g g' h = h
number-map-within (Some i) g g' h = λ a b k t s v d. d

pub no-map-within : MapWithin no_map no_map
no-map-within a b k t s v d = d

pub with_stream-within : (x : List ℕ) (a b : Stream) (q r : Meanings) → Within a b → MeaningsWithin q r → MeaningsWithin (with_stream x a q) (with_stream x b r)
with_stream-within x a b q r h k =
    record {
      streams = λ n. chosen-within (same_name n x) a (q.stream n) b (r.stream n) h (k.streams n);
      maps = λ n. chosen-map-within (same_name n x) no_map (q.map n) no_map (r.map n) no-map-within (k.maps n);
    }

pub with_map-within : (x : List ℕ) (f g : Map) (q r : Meanings) → MapWithin f g → MeaningsWithin q r → MeaningsWithin (with_map x f q) (with_map x g r)
with_map-within x f g q r h k =
    record {
      streams = λ n. chosen-within (same_name n x) no_stream (q.stream n) no_stream (r.stream n) (λ t s v d. d) (k.streams n);
      maps = λ n. chosen-map-within (same_name n x) f (q.map n) g (r.map n) h (k.maps n);
    }

pub with_arguments-within : (ns : List (List ℕ)) (a b : Streams) (q r : Meanings) → EachWithin a b → MeaningsWithin q r
    → MeaningsWithin (with_arguments ns a q) (with_arguments ns b r)
with_arguments-within ns a b q r h k =
    record {
      streams = λ n. number-within (param n ns) a b (q.stream n) (r.stream n) h (k.streams n);
      maps = λ n. number-map-within (param n ns) (q.map n) (r.map n) (k.maps n);
    }

pub frozen-within : (z : Option ℕ) (a b : Stream) → Within a b → Within (frozen z a) (frozen z b)
frozen-within None a b h t s v d = d
frozen-within (Some u) a b h t s v d = h _ s v d

pub iterate-grows : (f g : Meanings → Meanings) → ((q r : Meanings) → MeaningsWithin q r → MeaningsWithin (f q) (g r)) → (k : ℕ)
    → MeaningsWithin (iterate f k) (iterate g k)
iterate-grows f g h zero = record { streams = λ n t s v d. d; maps = λ n a b k t s v d. d }
iterate-grows f g h (suc k) = h (iterate f k) (iterate g k) (iterate-grows f g h k)

pub least-grows : (f g : Meanings → Meanings) → ((q r : Meanings) → MeaningsWithin q r → MeaningsWithin (f q) (g r))
    → MeaningsWithin (least f) (least g)
least-grows f g h =
    record {
      streams = λ n t s v d. (d.0, (iterate-grows f g h d.0).streams n t s v d.1);
      maps = λ n a b k t s v d. (d.0, (iterate-grows f g h d.0).maps n a b k t s v d.1);
    }

mutual
  pub denotation-grows : (e : PlainTree) (q r : Meanings) → MeaningsWithin q r → Within (denotation e q) (denotation e r)
  denotation-grows (form at f es) q r h = operator-grows f (denotations es q) (denotations es r) (denotations-grow es q r h)
  denotation-grows (name at n) q r h = h.streams n
  denotation-grows (call at n es) q r h = h.maps n (denotations es q) (denotations es r) (denotations-grow es q r h)
  denotation-grows (block at e ds) q r h = λ t s v d.
      denotation-grows e (least (equations ds (frozen_at ds t) q)) (least (equations ds (frozen_at ds t) r))
      (least-grows (equations ds (frozen_at ds t) q) (equations ds (frozen_at ds t) r) (equations-grow ds (frozen_at ds t) q r h)) t s v d

  pub denotations-grow : (es : PlainTrees) (q r : Meanings) → MeaningsWithin q r → EachWithin (denotations es q) (denotations es r)
  denotations-grow no_trees q r h i = λ t s v d. d
  denotations-grow (tree e es) q r h zero = denotation-grows e q r h
  denotations-grow (tree e es) q r h (suc i) = denotations-grow es q r h i

  pub equations-grow : (ds : PlainDefs) (z : Option ℕ) (q r : Meanings) → MeaningsWithin q r → (x y : Meanings) → MeaningsWithin x y
      → MeaningsWithin (equations ds z q x) (equations ds z r y)
  equations-grow no_defs z q r h x y k = h
  equations-grow (defines at n e ds) z q r h x y k =
      with_stream-within n (denotation e x) (denotation e y) (equations ds z q x) (equations ds z r y) (denotation-grows e x y k) (equations-grow ds z q r h x y k)
  equations-grow (defines_function at n ns ats e ds) z q r h x y k =
      with_map-within n (λ a. denotation e (with_arguments ns a x)) (λ a. denotation e (with_arguments ns a y)) (equations ds z q x) (equations ds z r y)
      (λ a b l. denotation-grows e (with_arguments ns a x) (with_arguments ns b y) (with_arguments-within ns a b x y l k)) (equations-grow ds z q r h x y k)
  equations-grow (defines_current at n e ds) z q r h x y k =
      with_stream-within n (frozen z (denotation e q)) (frozen z (denotation e r)) (equations ds z q x) (equations ds z r y)
      (frozen-within z (denotation e q) (denotation e r) (denotation-grows e q r h)) (equations-grow ds z q r h x y k)
