-- The table that is compiled from a tree has its approximations, and visits what it visits.
use Rattle.lucid_compile.proofs.Common.{◌≡◌, ℕ, zero, suc, ◌+◌, Bool, true, false, List, [], ◌∷◌, ◌++◌, map, Option, Some, None, refl, sym, ap, ◌∙◌, if◌then◌else◌, nat_le, ◌⊎◌, inl, inr, map-append, PlainValue, PlainTree, form, name, call, block, PlainTrees, no_trees, tree, PlainDefs, no_defs, defines, defines_function, defines_current, Look, Plan, gives, nothing, looks, plan, Reader, trace, gather, all_values, with_values, Env, empty, scope, args, frozen_at, Found, absent, plain_def, function_def, current_def, definition, param, Referent, Position, Aim, name_target, unless_param, call_target, element_of, goes_to, nowhere, Event, referred, entered, Equations, Daton, NodePosition, NodeAim, reference_aim, call_aim, node_val, Context, root, meaning, freezes, level, Numbers, Source, call_level, node_for, nodes_for, static_of, context_for, daton_of, position_for, event_of, Kept, AllKept, Good, Compiles, run, value_at, node_value, eqval, context_of, node_walk, node_visits, visits}
use Rattle.lucid_tree.specs.Env.{called}
use Rattle.lucid_tree.specs.Meaning as of_trees
use Rattle.lucid_tree.specs.Demand as seen_of_trees
use Rattle.lucid_tree.specs.Levels as levels
use Rattle.lucid_equations.specs.Values.{part_at}
use Rattle.lucid_equations.specs.Visits.{walk_at, walk_part}
use Rattle.lucid_compile.specs.Static.{reference_of}
use Rattle.lucid_compile.proofs.Cuts.{frames-level}
use Rattle.lucid_compile.proofs.Targets.{target_of, Placed, Fits, name-goal, call-goal, name-fits, call-fits}

-- a block is opened with a frozen time exactly where it freezes
pub opened : (ds : PlainDefs) (t : ℕ) → ((freezes ds ≡ true) × (frozen_at ds t ≡ Some t)) ⊎ ((freezes ds ≡ false) × (frozen_at ds t ≡ None))
opened no_defs t = inr (refl, refl)
opened (defines at x e ds) t = opened ds t
opened (defines_function at x ns ats e ds) t = opened ds t
opened (defines_current at x e ds) t = inl (refl, refl)

run_same : (q : Plan) (r r' : Reader (Option PlainValue)) → ((i t s : ℕ) → r i t s ≡ r' i t s) → run q r ≡ run q r'
run_same q r r' h = λ i. run q (λ j t s. h j t s i)

module _ (nu : Numbers) (so : Source) (p : Equations) where
  name-same : (x : List ℕ) (env : Env) (t : ℕ) → Good nu so p env
      → reference_aim p (reference_of nu (level (static_of env)) x (meaning x (static_of env))) (context_for nu env) t ≡ target_of nu so p (name_target x env t)
  name-same x env t g = name-goal nu so p (context_for nu env) (level (static_of env)) (frames-level nu so p env g) x t env g (λ l b. refl)

  call-same : (at : ℕ) (x : List ℕ) (es : PlainTrees) (env : Env) (t : ℕ) → Good nu so p env → Kept nu so p (static_of env) (call at x es)
      → call_aim p (nu.name at) (nu.place es) (call_level (level (static_of env)) (meaning x (static_of env))) (context_for nu env) t ≡ target_of nu so p
      (call_target at x es env env t)
  call-same at x es env t g k = call-goal nu so p at x es env t (level (static_of env)) (frames-level nu so p env g) env g (λ l b. refl) k.0

  mutual
    value-same : (m : ℕ) (b : levels.Below Referent Position) (b' : levels.Below Daton NodePosition)
        → ((a : Aim) (s : ℕ) → Fits nu so p a → b a s ≡ b' (target_of nu so p a) s) → (e : PlainTree) (env : Env) (t s : ℕ) → Good nu so p env
        → Kept nu so p (static_of env) e → of_trees.value_at m b e env t s ≡ value_at p m b' (node_for nu (static_of env) e) (context_for nu env) t s
    value-same m b b' h (form at f es) env t s g k =
        run_same (plan m f t s) (λ i u r. of_trees.part_at m b es env i u r)
        (λ i u r. part_at p m b' (nodes_for nu (static_of env) es) (context_for nu env) i u r) (λ i u r. part-same m b b' h es env i u r g k.0)
    value-same m b b' h (name at x) env t s g k = rw (name-same x env t g) (h (name_target x env t) s (name-fits nu so p x t env g))
    value-same m b b' h (call at x es) env t s g k =
        rw (call-same at x es env t g k) (h (call_target at x es env env t) s (call-fits nu so p at x es env t g k.1 k.2 env g k.0))
    value-same m b b' h (block at e ds) env t s g k =
        elim (opened ds t) [
          | inl o ↦ rw (o.0, o.1) (value-same m b b' h e (scope ds (Some t) env) t s (rw o.0 tt, k.1, g) k.0)
          | inr o ↦ rw (o.0, o.1) (value-same m b b' h e (scope ds None env) t s (rw o.0 tt, k.1, g) k.0)
        ]

    part-same : (m : ℕ) (b : levels.Below Referent Position) (b' : levels.Below Daton NodePosition)
        → ((a : Aim) (s : ℕ) → Fits nu so p a → b a s ≡ b' (target_of nu so p a) s) → (es : PlainTrees) (env : Env) (i t s : ℕ) → Good nu so p env
        → AllKept nu so p (static_of env) es → of_trees.part_at m b es env i t s ≡ part_at p m b' (nodes_for nu (static_of env) es) (context_for nu env) i t s
    part-same m b b' h no_trees env i t s g k = refl
    part-same m b b' h (tree e es) env zero t s g k = value-same m b b' h e env t s g k.0
    part-same m b b' h (tree e es) env (suc i) t s g k = part-same m b b' h es env i t s g k.1

  -- what is held of an entry is held of its daton
  abbrev pub HeldAlike : (Referent → ℕ → Option PlainValue) → (Daton → ℕ → Option PlainValue) → Type 0
  HeldAlike held kept = (k : Referent) (s : ℕ) → Placed nu so p k → held k s ≡ kept (daton_of nu k) s

  module _ (element : List ℕ → ℕ → Option PlainValue) (held : Referent → ℕ → Option PlainValue) (kept : Daton → ℕ → Option PlainValue)
      (alike : HeldAlike held kept) where
    abbrev pub on_trees : levels.Given Referent
    on_trees = record { element = element; held = held }

    abbrev pub on_nodes : levels.Given Daton
    on_nodes = record { element = element; held = kept }

    below-same : (m : ℕ) (a : Aim) (s : ℕ) → Fits nu so p a
        → levels.below of_trees.value on_trees m a s ≡ levels.below (node_value p) on_nodes m (target_of nu so p a) s
    below-same zero (element_of n j) s f = refl
    below-same zero (goes_to k x u) s f = alike k s f.0
    below-same zero nowhere s f = refl
    below-same (suc m) (element_of n j) s f = refl
    below-same (suc m) (goes_to k x u) s f =
        rw (
          alike k s f.0,
          value-same m (levels.below of_trees.value on_trees m) (levels.below (node_value p) on_nodes m) (below-same m) x.tree x.env u s f.1
              f.2,
        ) refl
    below-same (suc m) nowhere s f = refl

    -- equal at each m, with held values, at each time and space
    pub hval-same : (m : ℕ) (e : PlainTree) (env : Env) (t s : ℕ) → Good nu so p env → Kept nu so p (static_of env) e
        → of_trees.hval on_trees m e env t s ≡ levels.approximation (node_value p) on_nodes m (position_for nu (record { tree = e; env = env })) t s
    hval-same m e env t s g k = value-same m (levels.below of_trees.value on_trees m) (levels.below (node_value p) on_nodes m) (below-same m) e env t s g k

map_shown : {A B : Type 0} (f : A → B) (b : Bool) (xs : List A) (ys : List B) → ys ≡ map f xs → (if b then ys else []) ≡ map f (if b then xs else [])
map_shown f true xs ys h = h
map_shown f false xs ys h = refl

map_gather : {A B : Type 0} (f : A → B) (m : ℕ) (see : Reader (List A)) (see' : Reader (List B)) → ((i t s : ℕ) → see' i t s ≡ map f (see i t s))
    → (ls : List Look) → gather m see' ls ≡ map f (gather m see ls)
map_gather f m see see' h [] = refl
map_gather f m see see' h (l ∷ ls) =
    (λ i. map_shown f (nat_le l.least m) (see l.part l.time l.space) (see' l.part l.time l.space) (h l.part l.time l.space) i ++ map_gather f m see see' h ls i)
    ∙ sym (map-append f (if nat_le l.least m then see l.part l.time l.space else []) (gather m see ls))

map_later : {A B : Type 0} (f : A → B) (o : Option (List PlainValue)) (x : List PlainValue → List A) (y : List PlainValue → List B)
    → ((vs : List PlainValue) → y vs ≡ map f (x vs)) → with_values o [] y ≡ map f (with_values o [] x)
map_later f None x y h = refl
map_later f (Some vs) x y h = h vs

map_trace : {A B : Type 0} (f : A → B) (m : ℕ) (q : Plan) (d d' : Reader (Option PlainValue)) (see : Reader (List A)) (see' : Reader (List B))
    → ((i t s : ℕ) → d' i t s ≡ d i t s) → ((i t s : ℕ) → see' i t s ≡ map f (see i t s)) → trace m q d' see' ≡ map f (trace m q d see)
map_trace f m (gives v) d d' see see' h k = refl
map_trace f m nothing d d' see see' h k = refl
map_trace f m (looks ls c) d d' see see' h k =
    (λ i. map_gather f m see see' k ls i ++ with_values (all_values (λ j t s. h j t s i) ls) [] (λ vs. trace m (c vs) d' see'))
    ∙ ap (λ zs. map f (gather m see ls) ++ zs)
    (map_later f (all_values d ls) (λ vs. trace m (c vs) d see) (λ vs. trace m (c vs) d' see') (λ vs. map_trace f m (c vs) d d' see see' h k))
    ∙ sym (map-append f (gather m see ls) (with_values (all_values d ls) [] (λ vs. trace m (c vs) d see)))

module _ (nu : Numbers) (so : Source) (p : Equations) (element : List ℕ → ℕ → Option PlainValue) (held : Referent → ℕ → Option PlainValue)
    (kept : Daton → ℕ → Option PlainValue) (alike : HeldAlike nu so p held kept) where
  abbrev g : levels.Given Referent
  g = on_trees nu so p element held kept alike

  abbrev g' : levels.Given Daton
  g' = on_nodes nu so p element held kept alike

  abbrev event : Event Referent Position Env → Event Daton NodePosition Context
  event = event_of nu

  -- a call of a tree goes on in the environment that its daton stands in
  abbrev Enters : Aim → Type 0
  Enters a = context_of (target_of nu so p a) ≡ map event (seen_of_trees.entry_of a)

  called-enters : (o : Found) (at : ℕ) (es : PlainTrees) (env f : Env) (t : ℕ) (outer : Aim) → Enters outer → Enters (called o at es env f t outer)
  called-enters absent at es env f t outer h = h
  called-enters (plain_def d e) at es env f t outer h = refl
  called-enters (function_def d ns ats e) at es env f t outer h = refl
  called-enters (current_def d e) at es env f t outer h = refl

  past-enters : (o : Option ℕ) (outer : Aim) → Enters outer → Enters (unless_param o outer)
  past-enters None outer h = h
  past-enters (Some i) outer h = refl

  entry-same : (at : ℕ) (x : List ℕ) (es : PlainTrees) (env f : Env) (t : ℕ) → Enters (call_target at x es env f t)
  entry-same at x es env empty t = refl
  entry-same at x es env (scope ds z rest) t = called-enters (definition x ds) at es env (scope ds z rest) t (call_target at x es env rest t)
      (entry-same at x es env rest t)
  entry-same at x es env (args ns ats bs caller rest) t = past-enters (param x ns) (call_target at x es env rest t) (entry-same at x es env rest t)

  mutual
    walk-same : (m d : ℕ) (dp : Aim → ℕ → List (Event Referent Position Env)) (dp' : NodeAim → ℕ → List (Event Daton NodePosition Context))
        → ((a : Aim) (s : ℕ) → Fits nu so p a → dp' (target_of nu so p a) s ≡ map event (dp a s)) → (e : PlainTree) (env : Env) (t s : ℕ) → Good nu so p env
        → Kept nu so p (static_of env) e
        → walk_at p g' m d dp' (node_for nu (static_of env) e) (context_for nu env) t s ≡ map event (seen_of_trees.walk_at g m d dp e env t s)
    walk-same m d dp dp' h (form at f es) env t s good k =
        map_trace event m (plan (m + d) f t s) (λ i u r. of_trees.part_at (m + d) (levels.below of_trees.value g (m + d)) es env i u r)
        (λ i u r. part_at p (m + d) (levels.below (node_value p) g' (m + d)) (nodes_for nu (static_of env) es) (context_for nu env) i u r)
        (λ i u r. seen_of_trees.walk_part g m d dp es env i u r)
        (λ i u r. walk_part p g' m d dp' (nodes_for nu (static_of env) es) (context_for nu env) i u r)
        (λ i u r. sym (part-same nu so p (m + d) (levels.below of_trees.value g (m + d)) (levels.below (node_value p) g' (m + d))
        (below-same nu so p element held kept alike (m + d)) es env i u r good k.0)) (λ i u r. walk_part-same m d dp dp' h es env i u r good k.0)
    walk-same m d dp dp' h (name at x) env t s good k = rw (name-same nu so p x env t good) (h (name_target x env t) s (name-fits nu so p x t env good))
    walk-same m d dp dp' h (call at x es) env t s good k =
        rw (call-same nu so p at x es env t good k)
        ((λ i. entry-same at x es env env t i ++ h (call_target at x es env env t) s (call-fits nu so p at x es env t good k.1 k.2 env good k.0) i)
        ∙ sym (map-append event (seen_of_trees.entry_of (call_target at x es env env t)) (dp (call_target at x es env env t) s)))
    walk-same m d dp dp' h (block at e ds) env t s good k =
        elim (opened ds t) [
          | inl o ↦ rw (o.0, o.1) (ap (λ zs. entered (context_for nu (scope ds (Some t) env)) ∷ zs)
              (walk-same m d dp dp' h e (scope ds (Some t) env) t s (rw o.0 tt, k.1, good) k.0))
          | inr o ↦ rw (o.0, o.1) (walk-same m d dp dp' h e (scope ds None env) t s (rw o.0 tt, k.1, good) k.0)
        ]

    walk_part-same : (m d : ℕ) (dp : Aim → ℕ → List (Event Referent Position Env)) (dp' : NodeAim → ℕ → List (Event Daton NodePosition Context))
        → ((a : Aim) (s : ℕ) → Fits nu so p a → dp' (target_of nu so p a) s ≡ map event (dp a s)) → (es : PlainTrees) (env : Env) (i t s : ℕ) → Good nu so p env
        → AllKept nu so p (static_of env) es → walk_part p g' m d dp' (nodes_for nu (static_of env) es) (context_for nu env) i t s ≡ map event
        (seen_of_trees.walk_part g m d dp es env i t s)
    walk_part-same m d dp dp' h no_trees env i t s good k = refl
    walk_part-same m d dp dp' h (tree e es) env zero t s good k = walk-same m d dp dp' h e env t s good k.0
    walk_part-same m d dp dp' h (tree e es) env (suc i) t s good k = walk_part-same m d dp dp' h es env i t s good k.1

  deeper-same : (m d : ℕ) (a : Aim) (s : ℕ) → Fits nu so p a
      → levels.deeper (node_walk p g') m d (target_of nu so p a) s ≡ map event (levels.deeper (seen_of_trees.walk g) m d a s)
  deeper-same zero d a s f = refl
  deeper-same (suc m) d (element_of n j) s f = refl
  deeper-same (suc m) d (goes_to k x u) s f =
      ap (λ zs. referred (daton_of nu k) (position_for nu x) u s ∷ zs)
      (walk-same m d (levels.deeper (seen_of_trees.walk g) m d) (levels.deeper (node_walk p g') m d) (deeper-same m d) x.tree x.env u s f.1 f.2)
  deeper-same (suc m) d nowhere s f = refl

  -- all that is met, in the same order
  pub visited-same : (m d : ℕ) (e : PlainTree) (env : Env) (t s : ℕ) → Good nu so p env → Kept nu so p (static_of env) e
      → walk_at p g' m d (levels.deeper (node_walk p g') m d) (node_for nu (static_of env) e) (context_for nu env) t s ≡ map event
      (seen_of_trees.walk_at g m d (levels.deeper (seen_of_trees.walk g) m d) e env t s)
  visited-same m d e env t s good k =
      walk-same m d (levels.deeper (seen_of_trees.walk g) m d) (levels.deeper (node_walk p g') m d) (deeper-same m d) e env t s good k

module _ (nu : Numbers) (so : Source) (p : Equations) (e : PlainTree) (c : Compiles nu so p e) (b : List ℕ → ℕ → Option PlainValue) where
  -- the root's approximations are the tree's
  pub eqval-same : (m t s : ℕ) → eqval p b m t s ≡ of_trees.val b m e empty t s
  eqval-same m t s =
      ap (λ r. node_val p b m r root t s) c.root ∙ sym (hval-same nu so p b (λ k r. None) (λ d r. None) (λ k r h. refl) m e empty t s tt c.kept)

  -- and what is met from it is what is met from the tree
  pub visits-same : (m d t s : ℕ) → visits p b m d t s ≡ map (event_of nu) (seen_of_trees.seen b m d e empty t s)
  visits-same m d t s =
      ap (λ r. node_visits p b m d r root t s) c.root ∙ visited-same nu so p b (λ k r. None) (λ d' r. None) (λ k r h. refl) m d e empty t s tt c.kept
