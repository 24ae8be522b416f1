-- Contexts that catch no name: a tree in their places may be exchanged for one that denotes more where the context stands.
use Rattle.lucid_fixed_point.proofs.Common.{ap, ◌∙◌, refl, form, call, block, tree, defines, defines_function, defines_current, ◌≡◌, ℕ, zero, suc, Bool, true, false, if◌then◌else◌, List, Option, subst, arith, PlainTree, frozen_at, same_name, Stream, Streams, Map, Meanings, no_map, no_stream, chosen, with_arguments, frozen, iterate, least, Within, EachWithin, MapWithin, MeaningsWithin, denotation, denotations, equations, Avoids, parameters, Context, place, form_of, name_of, call_of, block_of, Contexts, no_contexts, context, DefContexts, no_definitions, is_plain, is_function, is_current, fill, fill_all, fill_definitions, Clear, InsideClear}
use Rattle.lucid_fixed_point.specs.Unfolding.{PlacesAreInside, defined_in, AllClear, IsPlaceless, ArePlaceless, InsidePlaceless}
use Rattle.lucid_fixed_point.proofs.Monotone.{operator-grows, denotation-grows, equations-grow, least-grows, with_stream-within, with_map-within, with_arguments-within, frozen-within}
use Rattle.lucid_fixed_point.proofs.Solved.{iterate-monotone}
use Rattle.lucid_fixed_point.proofs.Contexts.{opened-alike}
use Rattle.lucid_fixed_point.proofs.Off.{Off, denotation-off, arguments-within-off, within-arguments-off}

-- what stands in no place is the same
module _ (x y : PlainTree) where
  mutual
    placeless : (c : Context) → IsPlaceless c → fill c x ≡ fill c y
    placeless place h = absurd h
    placeless (form_of at f es) h = ap (λ k. form at f k) (placeless-all es h)
    placeless (name_of at n) h = refl
    placeless (call_of at n es) h = ap (λ k. call at n k) (placeless-all es h)
    placeless (block_of at e ds) h = ap (λ k. block at k (fill_definitions ds x)) (placeless e h.0) ∙ ap (λ k. block at (fill e y) k) (placeless-inside ds h.1)

    placeless-all : (es : Contexts) → ArePlaceless es → fill_all es x ≡ fill_all es y
    placeless-all no_contexts h = refl
    placeless-all (context e es) h = ap (λ k. tree k (fill_all es x)) (placeless e h.0) ∙ ap (λ k. tree (fill e y) k) (placeless-all es h.1)

    placeless-inside : (ds : DefContexts) → InsidePlaceless ds → fill_definitions ds x ≡ fill_definitions ds y
    placeless-inside no_definitions h = refl
    placeless-inside (is_plain at n e ds) h =
        ap (λ k. defines at n k (fill_definitions ds x)) (placeless e h.0) ∙ ap (λ k. defines at n (fill e y) k) (placeless-inside ds h.1)
    placeless-inside (is_function at n ps ats e ds) h =
        ap (λ k. defines_function at n ps ats k (fill_definitions ds x)) (placeless e h.0)
        ∙ ap (λ k. defines_function at n ps ats (fill e y) k) (placeless-inside ds h.1)
    placeless-inside (is_current at n e ds) h =
        ap (λ k. defines_current at n k (fill_definitions ds x)) (placeless e h.0) ∙ ap (λ k. defines_current at n (fill e y) k) (placeless-inside ds h.1)

-- A block's names hide what stands outside of no other name.
pub other-stream : (c d : Bool) (a b x : Stream) → (if c then true else d) ≡ false → (d ≡ false → Within b x × Within x b) → Within (chosen c a b) x × Within x (chosen c a b)
other-stream true d a b x e h = absurd (grind (arith, e))
other-stream false d a b x e h = h e

pub other-map : (c d : Bool) (f g k : Map) → (if c then true else d) ≡ false → (d ≡ false → MapWithin g k × MapWithin k g)
    → MapWithin (chosen c f g) k × MapWithin k (chosen c f g)
other-map true d f g k e h = absurd (grind (arith, e))
other-map false d f g k e h = h e

module _ (x : PlainTree) (z : Option ℕ) (r q : Meanings) (m : MeaningsWithin r r) where
  other-streams : (ds : DefContexts) (n : List ℕ) → defined_in ds n ≡ false
      → Within ((equations (fill_definitions ds x) z r q).stream n) (r.stream n) × Within (r.stream n) ((equations (fill_definitions ds x) z r q).stream n)
  other-streams no_definitions n e = ((λ t s v d. d), (λ t s v d. d))
  other-streams (is_plain at y e ds) n o =
      other-stream (same_name n y) (defined_in ds n) (denotation (fill e x) q) ((equations (fill_definitions ds x) z r q).stream n) (r.stream n) o (other-streams ds n)
  other-streams (is_function at y ps ats e ds) n o =
      other-stream (same_name n y) (defined_in ds n) no_stream ((equations (fill_definitions ds x) z r q).stream n) (r.stream n) o (other-streams ds n)
  other-streams (is_current at y e ds) n o =
      other-stream (same_name n y) (defined_in ds n) (frozen z (denotation (fill e x) r)) ((equations (fill_definitions ds x) z r q).stream n) (r.stream n) o
      (other-streams ds n)

  other-maps : (ds : DefContexts) (n : List ℕ) → defined_in ds n ≡ false
      → MapWithin ((equations (fill_definitions ds x) z r q).map n) (r.map n) × MapWithin (r.map n) ((equations (fill_definitions ds x) z r q).map n)
  other-maps no_definitions n e = (m.maps n, m.maps n)
  other-maps (is_plain at y e ds) n o =
      other-map (same_name n y) (defined_in ds n) no_map ((equations (fill_definitions ds x) z r q).map n) (r.map n) o (other-maps ds n)
  other-maps (is_function at y ps ats e ds) n o =
      other-map (same_name n y) (defined_in ds n) (λ a. denotation (fill e x) (with_arguments ps a q)) ((equations (fill_definitions ds x) z r q).map n) (r.map n) o
      (other-maps ds n)
  other-maps (is_current at y e ds) n o =
      other-map (same_name n y) (defined_in ds n) no_map ((equations (fill_definitions ds x) z r q).map n) (r.map n) o (other-maps ds n)

  step-off : (ds : DefContexts) → Off (defined_in ds) (equations (fill_definitions ds x) z r q) r
  step-off ds = record { streams = λ n o. (other-streams ds n o).0; maps = λ n o. (other-maps ds n o).0 }

  off-step : (ds : DefContexts) → Off (defined_in ds) r (equations (fill_definitions ds x) z r q)
  off-step ds = record { streams = λ n o. (other-streams ds n o).1; maps = λ n o. (other-maps ds n o).1 }

module _ (x : PlainTree) (z : Option ℕ) (r : Meanings) (m : MeaningsWithin r r) (ds : DefContexts) where
  iterate-off : (k : ℕ) → Off (defined_in ds) (iterate (equations (fill_definitions ds x) z r) k) r
  iterate-off zero = record { streams = λ n o t s v d. absurd d; maps = λ n o a b l t s v d. absurd d }
  iterate-off (suc k) = step-off x z r (iterate (equations (fill_definitions ds x) z r) k) m ds

  off-iterate : (k : ℕ) → Off (defined_in ds) r (iterate (equations (fill_definitions ds x) z r) (suc k))
  off-iterate k = off-step x z r (iterate (equations (fill_definitions ds x) z r) k) m ds

  least-is-off : Off (defined_in ds) (least (equations (fill_definitions ds x) z r)) r
  least-is-off =
      record {
        streams = λ n o t s v d. (iterate-off d.0).streams n o t s v d.1;
        maps = λ n o a b l t s v d. (iterate-off d.0).maps n o a b l t s v d.1;
      }

  off-least : Off (defined_in ds) r (least (equations (fill_definitions ds x) z r))
  off-least =
      record {
        streams = λ n o t s v d. (1, (off-iterate 0).streams n o t s v d);
        maps = λ n o a b l t s v d. (1, (off-iterate 0).maps n o a b l t s v d);
      }

-- Where the second means more, and what the second tree denotes there is more.
pub record Gains (x y : PlainTree) (q r : Meanings) : Type 1 where
  pub within : MeaningsWithin q r
  pub left : MeaningsWithin q q
  pub right : MeaningsWithin r r
  pub less : Within (denotation x q) (denotation y r)

module _ (x y : PlainTree) where
  arguments-gain : (ps : List (List ℕ)) → Avoids (parameters ps) x → Avoids (parameters ps) y → (a b : Streams) → EachWithin a b → (q r : Meanings)
      → Gains x y q r → Gains x y (with_arguments ps a q) (with_arguments ps b r)
  arguments-gain ps hx hy a b l q r p =
      record {
        within = with_arguments-within ps a b q r l p.within;
        left = with_arguments-within ps a a q q (λ i t s v d. d) p.left;
        right = with_arguments-within ps b b r r (λ i t s v d. d) p.right;
        less = λ t s v d. denotation-off (parameters ps) y r (with_arguments ps b r) hy (within-arguments-off ps b r p.right.maps) t s v
            (p.less t s v (denotation-off (parameters ps) x (with_arguments ps a q) q hx (arguments-within-off ps a q p.left.maps) t s v d));
      }

  -- a block's iterates, where the second is one ahead
  module _ (ds : DefContexts) (z : Option ℕ) (q r : Meanings) (p : Gains x y q r) (hx : Avoids (defined_in ds) x) (hy : Avoids (defined_in ds) y)
      (up : (a b : Meanings) → Gains x y a b → MeaningsWithin (equations (fill_definitions ds x) z q a) (equations (fill_definitions ds y) z r b)) where
    abbrev f : Meanings → Meanings
    f a = equations (fill_definitions ds x) z q a

    abbrev g : Meanings → Meanings
    g a = equations (fill_definitions ds y) z r a

    iterates-gain : (k : ℕ) → MeaningsWithin (iterate f k) (iterate g (suc k)) → Gains x y (iterate f k) (iterate g (suc k))
    iterates-gain k h =
        record {
          within = h;
          left = iterate-monotone f (equations-grow (fill_definitions ds x) z q q p.left) k;
          right = iterate-monotone g (equations-grow (fill_definitions ds y) z r r p.right) (suc k);
          less = λ t s v d. denotation-off (defined_in ds) y r (iterate g (suc k)) hy (off-iterate y z r p.right ds k) t s v
              (p.less t s v (denotation-off (defined_in ds) x (iterate f k) q hx (iterate-off x z q p.left ds k) t s v d));
        }

    one-ahead : (k : ℕ) → MeaningsWithin (iterate f k) (iterate g (suc k))
    one-ahead zero = record { streams = λ n t s v d. absurd d; maps = λ n a b h t s v d. absurd d }
    one-ahead (suc k) = up (iterate f k) (iterate g (suc k)) (iterates-gain k (one-ahead k))

    block-gains : Gains x y (least f) (least g)
    block-gains =
        record {
          within = record {
            streams = λ n t s v d. (suc d.0, (one-ahead d.0).streams n t s v d.1);
            maps = λ n a b l t s v d. (suc d.0, (one-ahead d.0).maps n a b l t s v d.1);
          };
          left = least-grows f f (equations-grow (fill_definitions ds x) z q q p.left);
          right = least-grows g g (equations-grow (fill_definitions ds y) z r r p.right);
          less = λ t s v d. denotation-off (defined_in ds) y r (least g) hy (off-least y z r p.right ds) t s v
              (p.less t s v (denotation-off (defined_in ds) x (least f) q hx (least-is-off x z q p.left ds) t s v d));
        }

  mutual
    pub swapped : (c : Context) → Clear x c → Clear y c → (q r : Meanings) → Gains x y q r → Within (denotation (fill c x) q) (denotation (fill c y) r)
    swapped place hx hy q r p = p.less
    swapped (form_of at f es) hx hy q r p = operator-grows f (denotations (fill_all es x) q) (denotations (fill_all es y) r) (swapped-all es hx hy q r p)
    swapped (name_of at n) hx hy q r p = p.within.streams n
    swapped (call_of at n es) hx hy q r p = p.within.maps n (denotations (fill_all es x) q) (denotations (fill_all es y) r) (swapped-all es hx hy q r p)
    swapped (block_of at e ds) hx hy q r p = λ t s v d.
        let z : Option ℕ = frozen_at (fill_definitions ds x) t in
        subst (λ o. denotation (fill e y) (least (equations (fill_definitions ds y) o r)) t s v) (opened-alike x y ds t)
        (swapped e hx.1 hy.1 (least (equations (fill_definitions ds x) z q)) (least (equations (fill_definitions ds y) z r))
        (block-gains ds z q r p hx.0 hy.0 (λ a b k. swapped-inside ds hx.2 hy.2 z q r p a b k)) t s v d)

    swapped-all : (es : Contexts) → AllClear x es → AllClear y es → (q r : Meanings) → Gains x y q r
        → EachWithin (denotations (fill_all es x) q) (denotations (fill_all es y) r)
    swapped-all no_contexts hx hy q r p i = λ t s v d. d
    swapped-all (context e es) hx hy q r p zero = swapped e hx.0 hy.0 q r p
    swapped-all (context e es) hx hy q r p (suc i) = swapped-all es hx.1 hy.1 q r p i

    swapped-inside : (ds : DefContexts) → InsideClear x ds → InsideClear y ds → (z : Option ℕ) (q r : Meanings) → Gains x y q r → (a b : Meanings)
        → Gains x y a b → MeaningsWithin (equations (fill_definitions ds x) z q a) (equations (fill_definitions ds y) z r b)
    swapped-inside no_definitions hx hy z q r p a b k = p.within
    swapped-inside (is_plain at n e ds) hx hy z q r p a b k =
        with_stream-within n (denotation (fill e x) a) (denotation (fill e y) b) (equations (fill_definitions ds x) z q a)
        (equations (fill_definitions ds y) z r b) (swapped e hx.0 hy.0 a b k) (swapped-inside ds hx.1 hy.1 z q r p a b k)
    swapped-inside (is_function at n ps ats e ds) hx hy z q r p a b k =
        with_map-within n (λ o. denotation (fill e x) (with_arguments ps o a)) (λ o. denotation (fill e y) (with_arguments ps o b))
        (equations (fill_definitions ds x) z q a) (equations (fill_definitions ds y) z r b)
        (λ o o' l. swapped e hx.1 hy.1 (with_arguments ps o a) (with_arguments ps o' b) (arguments-gain ps hx.0 hy.0 o o' l a b k))
        (swapped-inside ds hx.2 hy.2 z q r p a b k)
    swapped-inside (is_current at n e ds) hx hy z q r p a b k =
        with_stream-within n (frozen z (denotation (fill e x) q)) (frozen z (denotation (fill e y) r)) (equations (fill_definitions ds x) z q a)
        (equations (fill_definitions ds y) z r b) (frozen-within z (denotation (fill e x) q) (denotation (fill e y) r) (swapped e hx.0 hy.0 q r p))
        (swapped-inside ds hx.1 hy.1 z q r p a b k)

  -- in a block whose current definitions have no places, whatever the names outside mean
  pub swapped-scope : (ds : DefContexts) → PlacesAreInside ds → InsideClear x ds → InsideClear y ds → (z : Option ℕ) (q r : Meanings) → MeaningsWithin q r
      → (a b : Meanings) → Gains x y a b → MeaningsWithin (equations (fill_definitions ds x) z q a) (equations (fill_definitions ds y) z r b)
  swapped-scope no_definitions c hx hy z q r p a b k = p
  swapped-scope (is_plain at n e ds) c hx hy z q r p a b k =
      with_stream-within n (denotation (fill e x) a) (denotation (fill e y) b) (equations (fill_definitions ds x) z q a)
      (equations (fill_definitions ds y) z r b) (swapped e hx.0 hy.0 a b k) (swapped-scope ds c hx.1 hy.1 z q r p a b k)
  swapped-scope (is_function at n ps ats e ds) c hx hy z q r p a b k =
      with_map-within n (λ o. denotation (fill e x) (with_arguments ps o a)) (λ o. denotation (fill e y) (with_arguments ps o b))
      (equations (fill_definitions ds x) z q a) (equations (fill_definitions ds y) z r b)
      (λ o o' l. swapped e hx.1 hy.1 (with_arguments ps o a) (with_arguments ps o' b) (arguments-gain ps hx.0 hy.0 o o' l a b k))
      (swapped-scope ds c hx.2 hy.2 z q r p a b k)
  swapped-scope (is_current at n e ds) c hx hy z q r p a b k =
      with_stream-within n (frozen z (denotation (fill e x) q)) (frozen z (denotation (fill e y) r)) (equations (fill_definitions ds x) z q a)
      (equations (fill_definitions ds y) z r b)
      (frozen-within z (denotation (fill e x) q) (denotation (fill e y) r)
      (subst (λ w. Within (denotation (fill e x) q) (denotation w r)) (placeless x y e c.0) (denotation-grows (fill e x) q r p)))
      (swapped-scope ds c.1 hx.1 hy.1 z q r p a b k)
