-- What a node's approximation visits grows with the limit and with the added number; where it is defined it stays.
use Rattle.lucid_equations.proofs.Common.{◌≡◌, ℕ, zero, suc, ◌+◌, ◌≤◌, max, [], ◌∷◌, ◌++◌, Some, refl, sym, ap, ◌∙◌, subst, add-zero, inl, inr, arith, filter_map, PlainValue, In, Inside, Elements, Given, nothing_held, below, entered, reference_of, plan-grows, inside_itself, inside-after, inside-cons, TakesMore, trace-inside, takes_plan, trace-same, below-grows, last_or_less, Context, frozen_frame, PlainNode, row, freeze, reference, invoke, PlainNodes, no_nodes, node, Equations, Daton, NodeAim, reference_aim, call_aim, value_at, part_at, node_value, node_val, NodeEvents, context_of, walk_at, walk_part, node_walk, node_visits, IsNeeded}
use Rattle.lucid_tree.proofs.Plans.{nat_le-suc}
use Rattle.lucid_tree.proofs.LevelWalks.{Widens, walk-wider, walk-up, Settles, walk-same}
use Rattle.lucid_equations.proofs.NodeGrowth.{part_at-grows, node_value-grows, node_hval-up}

module _ (p : Equations) where
  mutual
    walk_at-widens : (g : Given Daton) (m m' d d' : ℕ) → m' + d' ≡ suc (m + d) → TakesMore m m' → (deep deep' : NodeAim → ℕ → NodeEvents)
        → ((a : NodeAim) (s : ℕ) → Inside (deep a s) (deep' a s)) → (e : PlainNode) (c : Context) (t s : ℕ)
        → Inside (walk_at p g m d deep e c t s) (walk_at p g m' d' deep' e c t s)
    walk_at-widens g m m' d d' h l deep deep' k (row f es) c t s =
        rw h (trace-inside m m' (plan-grows (m + d) f t s) (λ i u r. part_at p (m + d) (below (node_value p) g (m + d)) es c i u r)
        (λ i u r. part_at p (suc (m + d)) (below (node_value p) g (suc (m + d))) es c i u r) (λ i u r. walk_part p g m d deep es c i u r)
        (λ i u r. walk_part p g m' d' deep' es c i u r) l
        (λ i u r. part_at-grows p (m + d) (below (node_value p) g (m + d)) (below (node_value p) g (suc (m + d)))
        (below-grows (node_value p) (node_value-grows p) g (m + d)) es c i u r) (λ i u r. walk_part-widens g m m' d d' h l deep deep' k es c i u r))
    walk_at-widens g m m' d d' h l deep deep' k (freeze e) c t s =
        inside-cons (entered (frozen_frame t c)) (walk_at p g m d deep e (frozen_frame t c) t s) (walk_at p g m' d' deep' e (frozen_frame t c) t s)
        (walk_at-widens g m m' d d' h l deep deep' k e (frozen_frame t c) t s)
    walk_at-widens g m m' d d' h l deep deep' k (reference r) c t s = k (reference_aim p r c t) s
    walk_at-widens g m m' d d' h l deep deep' k (invoke n at v) c t s =
        inside-after (context_of (call_aim p n at v c t)) (deep (call_aim p n at v c t) s) (deep' (call_aim p n at v c t) s) (k (call_aim p n at v c t) s)

    walk_part-widens : (g : Given Daton) (m m' d d' : ℕ) → m' + d' ≡ suc (m + d) → TakesMore m m' → (deep deep' : NodeAim → ℕ → NodeEvents)
        → ((a : NodeAim) (s : ℕ) → Inside (deep a s) (deep' a s)) → (es : PlainNodes) (c : Context) (i t s : ℕ)
        → Inside (walk_part p g m d deep es c i t s) (walk_part p g m' d' deep' es c i t s)
    walk_part-widens g m m' d d' h l deep deep' k no_nodes c i t s = inside_itself []
    walk_part-widens g m m' d d' h l deep deep' k (node e es) c zero t s = walk_at-widens g m m' d d' h l deep deep' k e c t s
    walk_part-widens g m m' d d' h l deep deep' k (node e es) c (suc i) t s = walk_part-widens g m m' d d' h l deep deep' k es c i t s

  node_walk-widens : (g : Given Daton) → Widens (node_walk p g)
  node_walk-widens g m m' d d' h l deep deep' k x t s = walk_at-widens g m m' d d' h l deep deep' k x.node x.context t s

  pub node_visits-wider : (b : Elements) (m d : ℕ) (e : PlainNode) (c : Context) (t s : ℕ)
      → Inside (node_visits p b m d e c t s) (node_visits p b m (suc d) e c t s)
  node_visits-wider b m d e c t s = walk-wider (node_walk p (nothing_held b)) (node_walk-widens (nothing_held b)) m d (record { node = e; context = c }) t s

  pub node_visits-up : (b : Elements) (m d : ℕ) (e : PlainNode) (c : Context) (t s : ℕ)
      → Inside (node_visits p b m d e c t s) (node_visits p b (suc m) d e c t s)
  node_visits-up b m d e c t s = walk-up (node_walk p (nothing_held b)) (node_walk-widens (nothing_held b)) m d (record { node = e; context = c }) t s

  module _ (b : Elements) where
    mutual
      walk_at-same : (m : ℕ) (deep deep' : NodeAim → ℕ → NodeEvents)
          → ((a : NodeAim) (s : ℕ) (v : PlainValue) → below (node_value p) (nothing_held b) m a s ≡ Some v → deep a s ≡ deep' a s)
          → (e : PlainNode) (c : Context) (t s : ℕ) (v : PlainValue) → value_at p m (below (node_value p) (nothing_held b) m) e c t s ≡ Some v
          → walk_at p (nothing_held b) m 0 deep e c t s ≡ walk_at p (nothing_held b) (suc m) 0 deep' e c t s
      walk_at-same m deep deep' h (row f es) c t s v d =
          rw (add-zero m, add-zero (suc m)) (trace-same m (suc m) (plan-grows m f t s) (takes_plan m f t s)
          (λ i u r. part_at p m (below (node_value p) (nothing_held b) m) es c i u r)
          (λ i u r. part_at p (suc m) (below (node_value p) (nothing_held b) (suc m)) es c i u r)
          (λ i u r. walk_part p (nothing_held b) m 0 deep es c i u r) (λ i u r. walk_part p (nothing_held b) (suc m) 0 deep' es c i u r)
          (λ l k. nat_le-suc l m k) (λ i u r. part_at-grows p m (below (node_value p) (nothing_held b) m) (below (node_value p) (nothing_held b) (suc m))
          (below-grows (node_value p) (node_value-grows p) (nothing_held b) m) es c i u r) (λ i u r w k. walk_part-same m deep deep' h es c i u r w k) v d)
      walk_at-same m deep deep' h (freeze e) c t s v d =
          ap (λ xs. entered (frozen_frame t c) ∷ xs) (walk_at-same m deep deep' h e (frozen_frame t c) t s v d)
      walk_at-same m deep deep' h (reference r) c t s v d = h (reference_aim p r c t) s v d
      walk_at-same m deep deep' h (invoke n at l) c t s v d =
          ap (λ xs. context_of (call_aim p n at l c t) ++ xs) (h (call_aim p n at l c t) s v d)

      walk_part-same : (m : ℕ) (deep deep' : NodeAim → ℕ → NodeEvents)
          → ((a : NodeAim) (s : ℕ) (v : PlainValue) → below (node_value p) (nothing_held b) m a s ≡ Some v → deep a s ≡ deep' a s)
          → (es : PlainNodes) (c : Context) (i t s : ℕ) (v : PlainValue) → part_at p m (below (node_value p) (nothing_held b) m) es c i t s ≡ Some v
          → walk_part p (nothing_held b) m 0 deep es c i t s ≡ walk_part p (nothing_held b) (suc m) 0 deep' es c i t s
      walk_part-same m deep deep' h no_nodes c i t s v d = refl
      walk_part-same m deep deep' h (node e es) c zero t s v d = walk_at-same m deep deep' h e c t s v d
      walk_part-same m deep deep' h (node e es) c (suc i) t s v d = walk_part-same m deep deep' h es c i t s v d

    node_walk-settles : Settles (node_walk p (nothing_held b)) (node_value p) b
    node_walk-settles m deep deep' h x t s v d = walk_at-same m deep deep' h x.node x.context t s v d

    visits-same : (m : ℕ) (e : PlainNode) (c : Context) (t s : ℕ) (v : PlainValue) → node_val p b m e c t s ≡ Some v
        → node_visits p b m 0 e c t s ≡ node_visits p b (suc m) 0 e c t s
    visits-same m e c t s v d = walk-same (node_walk p (nothing_held b)) (node_value p) b node_walk-settles m (record { node = e; context = c }) t s v d

    -- where an approximation is defined, each greater one visits the same
    pub visits-stay : (m n : ℕ) → m ≤ n → (e : PlainNode) (c : Context) (t s : ℕ) (v : PlainValue) → node_val p b m e c t s ≡ Some v
        → node_visits p b n 0 e c t s ≡ node_visits p b m 0 e c t s
    visits-stay m zero h e c t s v d =
        let z : 0 ≡ m = omega arith in ap (λ k. node_visits p b k 0 e c t s) z
    visits-stay m (suc n) h e c t s v d =
        elim (last_or_less m n h) [
          | inl l ↦ sym (visits-same n e c t s v (node_hval-up p (nothing_held b) m n l e c t s v d)) ∙ visits-stay m n l e c t s v d
          | inr z ↦ ap (λ k. node_visits p b k 0 e c t s) (sym z)
        ]

    -- so the datons that are needed are those that any defined approximation goes to
    pub needed-visited : (m : ℕ) (e : PlainNode) (c : Context) (t s : ℕ) (v : PlainValue) (d : Daton × ℕ) → node_val p b m e c t s ≡ Some v
        → IsNeeded p b e c t s d → In d (filter_map reference_of (node_visits p b m 0 e c t s))
    needed-visited m e c t s v d a q =
        let n : ℕ = max m q.0 in
        let here : node_visits p b n 0 e c t s ≡ node_visits p b m 0 e c t s = visits-stay m n (omega arith) e c t s v a in
        let there : node_visits p b n 0 e c t s ≡ node_visits p b q.0 0 e c t s = visits-stay q.0 n (omega arith) e c t s q.1 q.2 in
        subst (λ xs. In d (filter_map reference_of xs)) (sym there ∙ here) q.3
