-- What a tree denotes depends on the names that it uses alone.
use Rattle.lucid_fixed_point.proofs.Common.{◌≡◌, ℕ, zero, suc, false, List, Option, Some, None, is_some, arith, PlainTree, form, name, call, block, PlainTrees, no_trees, tree, PlainDefs, no_defs, defines, defines_function, defines_current, frozen_at, same_name, param, Stream, Streams, Map, Meanings, no_map, no_stream, numbered_or, with_stream, with_map, with_arguments, frozen, iterate, least, Within, EachWithin, MapWithin, denotation, denotations, equations, Avoids, parameters, Names, AllAvoid}
use Rattle.lucid_fixed_point.specs.Unfolding.{InsideAvoids}
use Rattle.lucid_fixed_point.proofs.Monotone.{operator-grows, chosen-within, chosen-map-within, number-within, number-map-within, no-map-within, frozen-within}

module _ (ns : Names) where
  -- the order of meanings, of other names than these
  pub record Off (q r : Meanings) : Type 1 where
    pub streams : (n : List ℕ) → ns n ≡ false → Within (q.stream n) (r.stream n)
    pub maps : (n : List ℕ) → ns n ≡ false → MapWithin (q.map n) (r.map n)

  off-stream : (x : List ℕ) (a b : Stream) (q r : Meanings) → Within a b → Off q r → Off (with_stream x a q) (with_stream x b r)
  off-stream x a b q r h k =
      record {
        streams = λ n o. chosen-within (same_name n x) a (q.stream n) b (r.stream n) h (k.streams n o);
        maps = λ n o. chosen-map-within (same_name n x) no_map (q.map n) no_map (r.map n) no-map-within (k.maps n o);
      }

  off-map : (x : List ℕ) (f g : Map) (q r : Meanings) → MapWithin f g → Off q r → Off (with_map x f q) (with_map x g r)
  off-map x f g q r h k =
      record {
        streams = λ n o. chosen-within (same_name n x) no_stream (q.stream n) no_stream (r.stream n) (λ t s v d. d) (k.streams n o);
        maps = λ n o. chosen-map-within (same_name n x) f (q.map n) g (r.map n) h (k.maps n o);
      }

  off-arguments : (ps : List (List ℕ)) (a b : Streams) (q r : Meanings) → EachWithin a b → Off q r → Off (with_arguments ps a q) (with_arguments ps b r)
  off-arguments ps a b q r h k =
      record {
        streams = λ n o. number-within (param n ps) a b (q.stream n) (r.stream n) h (k.streams n o);
        maps = λ n o. number-map-within (param n ps) (q.map n) (r.map n) (k.maps n o);
      }

  off-least : (f g : Meanings → Meanings) → ((q r : Meanings) → Off q r → Off (f q) (g r)) → (k : ℕ) → Off (iterate f k) (iterate g k)
  off-least f g h zero = record { streams = λ n o t s v d. absurd d; maps = λ n o a b l t s v d. absurd d }
  off-least f g h (suc k) = h (iterate f k) (iterate g k) (off-least f g h k)

  least-off : (f g : Meanings → Meanings) → ((q r : Meanings) → Off q r → Off (f q) (g r)) → Off (least f) (least g)
  least-off f g h =
      record {
        streams = λ n o t s v d. (d.0, (off-least f g h d.0).streams n o t s v d.1);
        maps = λ n o a b l t s v d. (d.0, (off-least f g h d.0).maps n o a b l t s v d.1);
      }

  mutual
    pub denotation-off : (e : PlainTree) (q r : Meanings) → Avoids ns e → Off q r → Within (denotation e q) (denotation e r)
    denotation-off (form at f es) q r h k = operator-grows f (denotations es q) (denotations es r) (denotations-off es q r h k)
    denotation-off (name at n) q r h k = k.streams n h
    denotation-off (call at n es) q r h k = k.maps n h.0 (denotations es q) (denotations es r) (denotations-off es q r h.1 k)
    denotation-off (block at e ds) q r h k = λ t s v d.
        denotation-off e (least (equations ds (frozen_at ds t) q)) (least (equations ds (frozen_at ds t) r)) h.0
        (least-off (equations ds (frozen_at ds t) q) (equations ds (frozen_at ds t) r) (λ x y l. equations-off ds (frozen_at ds t) q r h.1 k x y l)) t s v d

    denotations-off : (es : PlainTrees) (q r : Meanings) → AllAvoid ns es → Off q r → EachWithin (denotations es q) (denotations es r)
    denotations-off no_trees q r h k i = λ t s v d. d
    denotations-off (tree e es) q r h k zero = denotation-off e q r h.0 k
    denotations-off (tree e es) q r h k (suc i) = denotations-off es q r h.1 k i

    equations-off : (ds : PlainDefs) (z : Option ℕ) (q r : Meanings) → InsideAvoids ns ds → Off q r → (x y : Meanings) → Off x y
        → Off (equations ds z q x) (equations ds z r y)
    equations-off no_defs z q r h k x y l = k
    equations-off (defines at n e ds) z q r h k x y l =
        off-stream n (denotation e x) (denotation e y) (equations ds z q x) (equations ds z r y) (denotation-off e x y h.0 l)
        (equations-off ds z q r h.1 k x y l)
    equations-off (defines_function at n ps ats e ds) z q r h k x y l =
        off-map n (λ a. denotation e (with_arguments ps a x)) (λ a. denotation e (with_arguments ps a y)) (equations ds z q x) (equations ds z r y)
        (λ a b m. denotation-off e (with_arguments ps a x) (with_arguments ps b y) h.0 (off-arguments ps a b x y m l)) (equations-off ds z q r h.1 k x y l)
    equations-off (defines_current at n e ds) z q r h k x y l =
        off-stream n (frozen z (denotation e q)) (frozen z (denotation e r)) (equations ds z q x) (equations ds z r y)
        (frozen-within z (denotation e q) (denotation e r) (denotation-off e q r h.0 k)) (equations-off ds z q r h.1 k x y l)

-- Parameters hide what stands outside of no other name.
no-number : (o : Option ℕ) (a : Streams) (x : Stream) → is_some o ≡ false → Within (numbered_or o a x) x × Within x (numbered_or o a x)
no-number None a x e = ((λ t s v d. d), (λ t s v d. d))
no-number (Some i) a x e = absurd (grind (arith, e))

no-number-map : (o : Option ℕ) (f : Map) → MapWithin f f → is_some o ≡ false → MapWithin (numbered_or o (λ i. no_map) f) f × MapWithin f (numbered_or o (λ i. no_map) f)
no-number-map None f m e = (m, m)
no-number-map (Some i) f m e = absurd (grind (arith, e))

module _ (ps : List (List ℕ)) (a : Streams) (r : Meanings) (m : (n : List ℕ) → MapWithin (r.map n) (r.map n)) where
  pub arguments-within-off : Off (parameters ps) (with_arguments ps a r) r
  arguments-within-off =
      record {
        streams = λ n o. (no-number (param n ps) a (r.stream n) o).0;
        maps = λ n o. (no-number-map (param n ps) (r.map n) (m n) o).0;
      }

  pub within-arguments-off : Off (parameters ps) r (with_arguments ps a r)
  within-arguments-off =
      record {
        streams = λ n o. (no-number (param n ps) a (r.stream n) o).1;
        maps = λ n o. (no-number-map (param n ps) (r.map n) (m n) o).1;
      }
