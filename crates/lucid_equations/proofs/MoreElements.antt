-- With more elements a node keeps its values, and visits at least what it visited; where it has a value, the very same.
use Rattle.lucid_equations.proofs.Common.{◌≡◌, ℕ, zero, suc, ◌+◌, [], ◌∷◌, ◌++◌, Option, Some, None, refl, sym, ap, subst, add-zero, filter_map, PlainValue, In, Inside, plan, element_of, goes_to, nowhere, Elements, Given, nothing_held, below, deeper, entered, referred, reference_of, Keeps, within_itself, inside_itself, inside-after, inside-cons, inside-read, trace-inside, takes_plan, trace-same, Context, frozen_frame, PlainNode, row, freeze, reference, invoke, PlainNodes, no_nodes, node, Equations, Daton, NodeAim, reference_aim, call_aim, value_at, part_at, node_value, node_hval, node_val, NodeMeans, NodeEvents, context_of, walk_at, walk_part, node_walk, node_visits, IsNeeded, HeldIsMeant}
use Rattle.lucid_tree.specs.Levels.{look_up_of}
use Rattle.lucid_tree.proofs.LevelGrowth.{or_else-keeps}
use Rattle.lucid_equations.specs.MoreElements.{Extends}
use Rattle.lucid_equations.proofs.NodeGrowth.{node_value-keeps, part_at-keeps}
use Rattle.lucid_equations.proofs.NodeWalks.{needed-visited}

module _ (p : Equations) (b b' : Elements) (more : Extends b b') where
  module _ (held : Daton → ℕ → Option PlainValue) where
    abbrev g : Given Daton
    g = record { element = b; held = held }

    abbrev g' : Given Daton
    g' = record { element = b'; held = held }

    pub below-extends : (m : ℕ) (a : NodeAim) (s : ℕ)
        → Keeps (below (node_value p) (record { element = b; held = held }) m a s) (below (node_value p) (record { element = b'; held = held }) m a s)
    below-extends zero (element_of n j) s v e = e
    below-extends zero (goes_to k x u) s v e = e
    below-extends zero nowhere s v e = e
    below-extends (suc m) (element_of n j) s v e = more n j v e
    below-extends (suc m) (goes_to k x u) s v e =
        or_else-keeps (held k s) (node_value p m (below (node_value p) g m) x u s) (node_value p m (below (node_value p) g' m) x u s)
        (node_value-keeps p m (below (node_value p) g m) (below (node_value p) g' m) (λ a r y. below-extends m a r) x u s) v e
    below-extends (suc m) nowhere s v e = e

    pub node_hval-extends : (m : ℕ) (e : PlainNode) (c : Context) (t s : ℕ)
        → Keeps (node_hval p (record { element = b; held = held }) m e c t s) (node_hval p (record { element = b'; held = held }) m e c t s)
    node_hval-extends m e c t s = node_value-keeps p m (below (node_value p) g m) (below (node_value p) g' m) (λ a r y. below-extends m a r)
        (record { node = e; context = c }) t s

  pub meaning-extends : (e : PlainNode) (c : Context) (t s : ℕ) (v : PlainValue) → NodeMeans p b e c t s v → NodeMeans p b' e c t s v
  meaning-extends e c t s v n = (n.0, node_hval-extends (λ k r. None) n.0 e c t s v n.1)

  pub held-extends : (held : Daton → ℕ → Option PlainValue) → HeldIsMeant p (record { element = b; held = held })
      → HeldIsMeant p (record { element = b'; held = held })
  held-extends held h d x u s v goes k = meaning-extends x.node x.context u s v (h d x u s v goes k)

  abbrev f : Given Daton
  f = nothing_held b

  abbrev f' : Given Daton
  f' = nothing_held b'

  abbrev decides : (m : ℕ) (es : PlainNodes) (c : Context) (i t s : ℕ)
      → Keeps (part_at p m (below (node_value p) f m) es c i t s) (part_at p m (below (node_value p) f' m) es c i t s)
  decides m es c i t s = part_at-keeps p m (below (node_value p) f m) (below (node_value p) f' m) (λ a r y. below-extends (λ k r. None) m a r) es c i t s

  mutual
    walk_at-extends : (m d : ℕ) (deep deep' : NodeAim → ℕ → NodeEvents) → ((a : NodeAim) (s : ℕ) → Inside (deep a s) (deep' a s))
        → (e : PlainNode) (c : Context) (t s : ℕ) → Inside (walk_at p f m d deep e c t s) (walk_at p f' m d deep' e c t s)
    walk_at-extends m d deep deep' k (row h es) c t s =
        trace-inside m m (within_itself (plan (m + d) h t s)) (λ i u r. part_at p (m + d) (below (node_value p) f (m + d)) es c i u r)
        (λ i u r. part_at p (m + d) (below (node_value p) f' (m + d)) es c i u r)
        (λ i u r. walk_part p f m d deep es c i u r) (λ i u r. walk_part p f' m d deep' es c i u r) (λ l q. q) (λ i u r. decides (m + d) es c i u r)
        (λ i u r. walk_part-extends m d deep deep' k es c i u r)
    walk_at-extends m d deep deep' k (freeze e) c t s =
        inside-cons (entered (frozen_frame t c)) (walk_at p f m d deep e (frozen_frame t c) t s) (walk_at p f' m d deep' e (frozen_frame t c) t s)
        (walk_at-extends m d deep deep' k e (frozen_frame t c) t s)
    walk_at-extends m d deep deep' k (reference r) c t s = k (reference_aim p r c t) s
    walk_at-extends m d deep deep' k (invoke n at l) c t s =
        inside-after (context_of (call_aim p n at l c t)) (deep (call_aim p n at l c t) s) (deep' (call_aim p n at l c t) s) (k (call_aim p n at l c t) s)

    walk_part-extends : (m d : ℕ) (deep deep' : NodeAim → ℕ → NodeEvents) → ((a : NodeAim) (s : ℕ) → Inside (deep a s) (deep' a s))
        → (es : PlainNodes) (c : Context) (i t s : ℕ) → Inside (walk_part p f m d deep es c i t s) (walk_part p f' m d deep' es c i t s)
    walk_part-extends m d deep deep' k no_nodes c i t s = inside_itself []
    walk_part-extends m d deep deep' k (node e es) c zero t s = walk_at-extends m d deep deep' k e c t s
    walk_part-extends m d deep deep' k (node e es) c (suc i) t s = walk_part-extends m d deep deep' k es c i t s

  deeper-extends : (m d : ℕ) (a : NodeAim) (s : ℕ) → Inside (deeper (node_walk p f) m d a s) (deeper (node_walk p f') m d a s)
  deeper-extends zero d a s x i = i
  deeper-extends (suc m) d (element_of n j) s x i = i
  deeper-extends (suc m) d (goes_to k y u) s x i =
      inside-cons (referred k y u s) (node_walk p f m d (deeper (node_walk p f) m d) y u s) (node_walk p f' m d (deeper (node_walk p f') m d) y u s)
      (walk_at-extends m d (deeper (node_walk p f) m d) (deeper (node_walk p f') m d) (deeper-extends m d) y.node y.context u s) x i
  deeper-extends (suc m) d nowhere s x i = i

  pub node_visits-extends : (m d : ℕ) (e : PlainNode) (c : Context) (t s : ℕ) → Inside (node_visits p b m d e c t s) (node_visits p b' m d e c t s)
  node_visits-extends m d e c t s = walk_at-extends m d (deeper (node_walk p f) m d) (deeper (node_walk p f') m d) (deeper-extends m d) e c t s

  pub consults-extend : (m d : ℕ) (e : PlainNode) (c : Context) (t s : ℕ)
      → Inside (filter_map look_up_of (node_visits p b m d e c t s)) (filter_map look_up_of (node_visits p b' m d e c t s))
  consults-extend m d e c t s = inside-read look_up_of (node_visits p b m d e c t s) (node_visits p b' m d e c t s) (node_visits-extends m d e c t s)

  -- where there is a value, the very same is visited
  abbrev Alike : (m : ℕ) (deep deep' : NodeAim → ℕ → NodeEvents) → Type 0
  Alike m deep deep' = (a : NodeAim) (s : ℕ) (v : PlainValue) → below (node_value p) f m a s ≡ Some v → deep a s ≡ deep' a s

  mutual
    walk_at-alike : (m : ℕ) (deep deep' : NodeAim → ℕ → NodeEvents) → Alike m deep deep' → (e : PlainNode) (c : Context) (t s : ℕ) (v : PlainValue)
        → value_at p m (below (node_value p) f m) e c t s ≡ Some v → walk_at p f m 0 deep e c t s ≡ walk_at p f' m 0 deep' e c t s
    walk_at-alike m deep deep' k (row h es) c t s v d =
        rw (add-zero m) (trace-same m m (within_itself (plan m h t s)) (takes_plan m h t s) (λ i u r. part_at p m (below (node_value p) f m) es c i u r)
        (λ i u r. part_at p m (below (node_value p) f' m) es c i u r)
        (λ i u r. walk_part p f m 0 deep es c i u r) (λ i u r. walk_part p f' m 0 deep' es c i u r) (λ l q. q) (λ i u r. decides m es c i u r)
        (λ i u r w q. walk_part-alike m deep deep' k es c i u r w q) v d)
    walk_at-alike m deep deep' k (freeze e) c t s v d = ap (λ xs. entered (frozen_frame t c) ∷ xs) (walk_at-alike m deep deep' k e (frozen_frame t c) t s v d)
    walk_at-alike m deep deep' k (reference r) c t s v d = k (reference_aim p r c t) s v d
    walk_at-alike m deep deep' k (invoke n at l) c t s v d = ap (λ xs. context_of (call_aim p n at l c t) ++ xs) (k (call_aim p n at l c t) s v d)

    walk_part-alike : (m : ℕ) (deep deep' : NodeAim → ℕ → NodeEvents) → Alike m deep deep' → (es : PlainNodes) (c : Context) (i t s : ℕ) (v : PlainValue)
        → part_at p m (below (node_value p) f m) es c i t s ≡ Some v → walk_part p f m 0 deep es c i t s ≡ walk_part p f' m 0 deep' es c i t s
    walk_part-alike m deep deep' k no_nodes c i t s v d = refl
    walk_part-alike m deep deep' k (node e es) c zero t s v d = walk_at-alike m deep deep' k e c t s v d
    walk_part-alike m deep deep' k (node e es) c (suc i) t s v d = walk_part-alike m deep deep' k es c i t s v d

  deeper-alike : (m : ℕ) → Alike m (deeper (node_walk p f) m 0) (deeper (node_walk p f') m 0)
  deeper-alike zero (element_of n j) s v d = refl
  deeper-alike zero (goes_to k y u) s v d = refl
  deeper-alike zero nowhere s v d = refl
  deeper-alike (suc m) (element_of n j) s v d = refl
  deeper-alike (suc m) (goes_to k y u) s v d =
      ap (λ xs. referred k y u s ∷ xs) (walk_at-alike m (deeper (node_walk p f) m 0) (deeper (node_walk p f') m 0) (deeper-alike m) y.node y.context u s v d)
  deeper-alike (suc m) nowhere s v d = refl

  pub node_visits-alike : (m : ℕ) (e : PlainNode) (c : Context) (t s : ℕ) (v : PlainValue) → node_val p b m e c t s ≡ Some v
      → node_visits p b' m 0 e c t s ≡ node_visits p b m 0 e c t s
  node_visits-alike m e c t s v d = sym (walk_at-alike m (deeper (node_walk p f) m 0) (deeper (node_walk p f') m 0) (deeper-alike m) e c t s v d)

  -- so the same is needed
  needed-after : (m : ℕ) (e : PlainNode) (c : Context) (t s : ℕ) (v : PlainValue) → node_val p b m e c t s ≡ Some v → (d : Daton × ℕ) → IsNeeded p b e c t s d
      → IsNeeded p b' e c t s d
  needed-after m e c t s v h d q = (
    m,
    v,
    node_hval-extends (λ k r. None) m e c t s v h,
    subst (λ xs. In d (filter_map reference_of xs)) (sym (node_visits-alike m e c t s v h))
        (needed-visited p b m e c t s v d h q),
  )

  needed-before : (m : ℕ) (e : PlainNode) (c : Context) (t s : ℕ) (v : PlainValue) → node_val p b m e c t s ≡ Some v → (d : Daton × ℕ) → IsNeeded p b' e c t s d
      → IsNeeded p b e c t s d
  needed-before m e c t s v h d q = (
    m,
    v,
    h,
    subst (λ xs. In d (filter_map reference_of xs)) (node_visits-alike m e c t s v h)
        (needed-visited p b' m e c t s v d (node_hval-extends (λ k r. None) m e c t s v h) q),
  )

  pub needed-same : (e : PlainNode) (c : Context) (t s : ℕ) (v : PlainValue) → NodeMeans p b e c t s v → (d : Daton × ℕ)
      → (IsNeeded p b' e c t s d → IsNeeded p b e c t s d) × (IsNeeded p b e c t s d → IsNeeded p b' e c t s d)
  needed-same e c t s v n d = (needed-before n.0 e c t s v n.1 d, needed-after n.0 e c t s v n.1 d)
