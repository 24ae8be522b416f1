-- A function's right side behind the streams of its arguments is that right side in a block that defines the parameters by the arguments.
use Rattle.lucid_fixed_point.proofs.Common.{◌≡◌, ℕ, zero, suc, ◌↔◌, ◌∙◌, if◌then◌else◌, Names, block, frozen_at, Bool, true, false, List, [], ◌∷◌, Option, Some, None, nat_lt, is_some, refl, sym, subst, arith, PlainValue, PlainTree, PlainTrees, no_trees, tree, same_name, param, Stream, Streams, Map, Meanings, no_map, chosen, numbered_or, with_arguments, iterate, least, Within, MapWithin, MeaningsWithin, denotation, denotations, equations, AllAvoid, parameters, cond, not, ◌+◌, length, position_or_len, bound}
use Rattle.lucid_fixed_point.specs.Streams.{no_meanings}
use Rattle.lucid_fixed_point.specs.Unfolding.{AsMany}
use Rattle.lucid_fixed_point.proofs.Monotone.{with_stream-within, chosen-within, chosen-map-within, no-map-within, denotation-grows}
use Rattle.lucid_fixed_point.proofs.Catches.{other-stream, other-map}
use Rattle.lucid_fixed_point.proofs.Off.{Off, denotation-off}

-- the number of a name among parameters, by whether it is the first
abbrev number_by : Bool → Option ℕ → Option ℕ
number_by true o = Some 0
number_by false None = None
number_by false (Some i) = Some (suc i)

place-step : (c : Bool) (p len : ℕ) → cond (nat_lt (cond (not c) (1 + p) 0) (suc len)) (Some (cond (not c) (1 + p) 0)) None ≡ number_by c (cond (nat_lt p len) (Some p) None)
place-step true p len = grind arith
place-step false p len = grind arith

first-parameter : (n p : List ℕ) (ps : List (List ℕ)) → param n (p ∷ ps) ≡ number_by (same_name n p) (param n ps)
first-parameter n p ps = place-step (same_name n p) (position_or_len (λ y. same_name n y) ps) (length ps)

stream-first : (c : Bool) (o : Option ℕ) (a : Streams) (x : Stream)
    → numbered_or (number_by c o) a x ≡ chosen c (a 0) (numbered_or o (λ i. a (suc i)) x)
stream-first true o a x = refl
stream-first false None a x = refl
stream-first false (Some i) a x = refl

map-first : (c : Bool) (o : Option ℕ) (f : Map) → numbered_or (number_by c o) (λ i. no_map) f ≡ chosen c no_map (numbered_or o (λ i. no_map) f)
map-first true o f = refl
map-first false None f = refl
map-first false (Some i) f = refl

is-first : (c : Bool) (o : Option ℕ) → is_some (number_by c o) ≡ (if c then true else is_some o)
is-first true o = refl
is-first false None = refl
is-first false (Some i) = refl

none-remembered : (ps : List (List ℕ)) (es : PlainTrees) (t : ℕ) → frozen_at (bound ps es) t ≡ None
none-remembered [] es t = refl
none-remembered (p ∷ ps) no_trees t = refl
none-remembered (p ∷ ps) (tree e es) t = none-remembered ps es t

module _ (q : Meanings) (m : MeaningsWithin q q) where
  -- the streams of the arguments for the parameters are one step of the equations of the block
  stream-to : (ps : List (List ℕ)) (es : PlainTrees) → AsMany ps es → (n : List ℕ)
      → Within (numbered_or (param n ps) (denotations es q) (q.stream n)) ((equations (bound ps es) None q q).stream n)
  stream-to [] no_trees h n = λ t s v d. d
  stream-to [] (tree e es) h n = absurd h
  stream-to (p ∷ ps) no_trees h n = absurd h
  stream-to (p ∷ ps) (tree e es) h n =
      let to : Stream = (equations (bound (p ∷ ps) (tree e es)) None q q).stream n in
      let a : Streams = denotations (tree e es) q in
      subst (λ o. Within (numbered_or o a (q.stream n)) to) (sym (first-parameter n p ps))
      (subst (λ y. Within y to) (sym (stream-first (same_name n p) (param n ps) a (q.stream n)))
      (chosen-within (same_name n p) (denotation e q) (numbered_or (param n ps) (denotations es q) (q.stream n)) (denotation e q)
      ((equations (bound ps es) None q q).stream n) (λ t s v d. d) (stream-to ps es h n)))

  stream-from : (ps : List (List ℕ)) (es : PlainTrees) → AsMany ps es → (n : List ℕ)
      → Within ((equations (bound ps es) None q q).stream n) (numbered_or (param n ps) (denotations es q) (q.stream n))
  stream-from [] no_trees h n = λ t s v d. d
  stream-from [] (tree e es) h n = absurd h
  stream-from (p ∷ ps) no_trees h n = absurd h
  stream-from (p ∷ ps) (tree e es) h n =
      let from : Stream = (equations (bound (p ∷ ps) (tree e es)) None q q).stream n in
      let a : Streams = denotations (tree e es) q in
      subst (λ o. Within from (numbered_or o a (q.stream n))) (sym (first-parameter n p ps))
      (subst (λ y. Within from y) (sym (stream-first (same_name n p) (param n ps) a (q.stream n)))
      (chosen-within (same_name n p) (denotation e q) ((equations (bound ps es) None q q).stream n) (denotation e q)
      (numbered_or (param n ps) (denotations es q) (q.stream n)) (λ t s v d. d) (stream-from ps es h n)))

  map-to : (ps : List (List ℕ)) (es : PlainTrees) → AsMany ps es → (n : List ℕ)
      → MapWithin (numbered_or (param n ps) (λ i. no_map) (q.map n)) ((equations (bound ps es) None q q).map n)
  map-to [] no_trees h n = m.maps n
  map-to [] (tree e es) h n = absurd h
  map-to (p ∷ ps) no_trees h n = absurd h
  map-to (p ∷ ps) (tree e es) h n =
      let to : Map = (equations (bound (p ∷ ps) (tree e es)) None q q).map n in
      subst (λ o. MapWithin (numbered_or o (λ i. no_map) (q.map n)) to) (sym (first-parameter n p ps))
      (subst (λ y. MapWithin y to) (sym (map-first (same_name n p) (param n ps) (q.map n)))
      (chosen-map-within (same_name n p) no_map (numbered_or (param n ps) (λ i. no_map) (q.map n)) no_map ((equations (bound ps es) None q q).map n)
      no-map-within (map-to ps es h n)))

  map-from : (ps : List (List ℕ)) (es : PlainTrees) → AsMany ps es → (n : List ℕ)
      → MapWithin ((equations (bound ps es) None q q).map n) (numbered_or (param n ps) (λ i. no_map) (q.map n))
  map-from [] no_trees h n = m.maps n
  map-from [] (tree e es) h n = absurd h
  map-from (p ∷ ps) no_trees h n = absurd h
  map-from (p ∷ ps) (tree e es) h n =
      let from : Map = (equations (bound (p ∷ ps) (tree e es)) None q q).map n in
      subst (λ o. MapWithin from (numbered_or o (λ i. no_map) (q.map n))) (sym (first-parameter n p ps))
      (subst (λ y. MapWithin from y) (sym (map-first (same_name n p) (param n ps) (q.map n)))
      (chosen-map-within (same_name n p) no_map ((equations (bound ps es) None q q).map n) no_map (numbered_or (param n ps) (λ i. no_map) (q.map n))
      no-map-within (map-from ps es h n)))

  -- one step leaves the other names as they are outside
  others : (ps : List (List ℕ)) (es : PlainTrees) (x : Meanings) (n : List ℕ) → parameters ps n ≡ false
      → Within ((equations (bound ps es) None q x).stream n) (q.stream n) × Within (q.stream n) ((equations (bound ps es) None q x).stream n)
  others [] es x n o = ((λ t s v d. d), (λ t s v d. d))
  others (p ∷ ps) no_trees x n o = ((λ t s v d. d), (λ t s v d. d))
  others (p ∷ ps) (tree e es) x n o =
      other-stream (same_name n p) (is_some (param n ps)) (denotation e x) ((equations (bound ps es) None q x).stream n) (q.stream n)
      (sym (is-first (same_name n p) (param n ps)) ∙ subst (λ k. is_some k ≡ false) (first-parameter n p ps) o) (others ps es x n)

  other-maps : (ps : List (List ℕ)) (es : PlainTrees) (x : Meanings) (n : List ℕ) → parameters ps n ≡ false
      → MapWithin ((equations (bound ps es) None q x).map n) (q.map n) × MapWithin (q.map n) ((equations (bound ps es) None q x).map n)
  other-maps [] es x n o = (m.maps n, m.maps n)
  other-maps (p ∷ ps) no_trees x n o = (m.maps n, m.maps n)
  other-maps (p ∷ ps) (tree e es) x n o =
      other-map (same_name n p) (is_some (param n ps)) no_map ((equations (bound ps es) None q x).map n) (q.map n)
      (sym (is-first (same_name n p) (param n ps)) ∙ subst (λ k. is_some k ≡ false) (first-parameter n p ps) o) (other-maps ps es x n)

  -- and needs nothing of the parameters, where the arguments use none of them
  step-needs : (ns : Names) (ps : List (List ℕ)) (es : PlainTrees) → AllAvoid ns es → (x y : Meanings) → Off ns x y
      → MeaningsWithin (equations (bound ps es) None q x) (equations (bound ps es) None q y)
  step-needs ns [] es h x y k = m
  step-needs ns (p ∷ ps) no_trees h x y k = m
  step-needs ns (p ∷ ps) (tree e es) h x y k =
      with_stream-within p (denotation e x) (denotation e y) (equations (bound ps es) None q x) (equations (bound ps es) None q y)
      (denotation-off ns e x y h.0 k) (step-needs ns ps es h.1 x y k)

  module _ (ps : List (List ℕ)) (es : PlainTrees) (as_many : AsMany ps es) (avoid : AllAvoid (parameters ps) es) where
    abbrev step : Meanings → Meanings
    step x = equations (bound ps es) None q x

    step-off : (k : ℕ) → Off (parameters ps) (iterate step k) q
    step-off zero = record { streams = λ n o t s v d. absurd d; maps = λ n o a b l t s v d. absurd d }
    step-off (suc k) = record { streams = λ n o. (others ps es (iterate step k) n o).0; maps = λ n o. (other-maps ps es (iterate step k) n o).0 }

    off-step : Off (parameters ps) q (iterate step 1)
    off-step = record { streams = λ n o. (others ps es no_meanings n o).1; maps = λ n o. (other-maps ps es no_meanings n o).1 }

    iterates-below : (k : ℕ) → MeaningsWithin (iterate step k) (step q)
    iterates-below zero = record { streams = λ n t s v d. absurd d; maps = λ n a b l t s v d. absurd d }
    iterates-below (suc k) = step-needs (parameters ps) ps es avoid (iterate step k) q (step-off k)

    from-least : MeaningsWithin (least step) (with_arguments ps (denotations es q) q)
    from-least =
        record {
          streams = λ n t s v d. stream-from ps es as_many n t s v ((iterates-below d.0).streams n t s v d.1);
          maps = λ n a b l t s v d. map-from ps es as_many n b b (λ i t s v e. e) t s v ((iterates-below d.0).maps n a b l t s v d.1);
        }

    to-least : MeaningsWithin (with_arguments ps (denotations es q) q) (least step)
    to-least =
        let up : MeaningsWithin (step q) (iterate step 2) = step-needs (parameters ps) ps es avoid q (iterate step 1) off-step in record {
          streams = λ n t s v d. (2, up.streams n t s v (stream-to ps es as_many n t s v d));
          maps = λ n a b l t s v d. (2, up.maps n b b (λ i t s v e. e) t s v (map-to ps es as_many n a b l t s v d));
        }

    pub right-bound : (at : ℕ) (right : PlainTree) (t s : ℕ) (v : PlainValue)
        → denotation right (with_arguments ps (denotations es q) q) t s v ↔ denotation (block at right (bound ps es)) q t s v
    right-bound at right t s v =
        let w : Meanings = with_arguments ps (denotations es q) q in (
          (λ d. subst (λ z. denotation right (least (equations (bound ps es) z q)) t s v) (sym (none-remembered ps es t))
              (denotation-grows right w (least step) to-least t s v d)),
          (λ d. denotation-grows right (least step) w from-least t s v
              (subst (λ z. denotation right (least (equations (bound ps es) z q)) t s v) (none-remembered ps es t) d)),
        )
