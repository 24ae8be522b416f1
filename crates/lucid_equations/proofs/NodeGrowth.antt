-- A defined approximation of a node is the same at each greater limit.
use Rattle.lucid_equations.proofs.Common.{◌≡◌, ℕ, zero, suc, ◌≤◌, max, Some, arith, PlainValue, plan, Elements, Given, nothing_held, Below, Keeps, run-keeps, within_itself, plan-grows, Context, frozen_frame, PlainNode, row, freeze, reference, invoke, PlainNodes, no_nodes, node, Equations, Daton, NodePosition, NodeAim, reference_aim, call_aim, value_at, part_at, node_value, node_hval, node_val, NodeMeans, GoesByItsDaton}
use Rattle.lucid_tree.proofs.LevelGrowth.{Grows, approximation-up}
use Rattle.lucid_equations.proofs.NodeAims.{reference-by_daton, call-by_daton}

module _ (p : Equations) where
  mutual
    value_at-grows : (m : ℕ) (b b' : Below Daton NodePosition) → ((a : NodeAim) (s : ℕ) → Keeps (b a s) (b' a s)) → (e : PlainNode) (c : Context) (t s : ℕ)
        → Keeps (value_at p m b e c t s) (value_at p (suc m) b' e c t s)
    value_at-grows m b b' h (row f es) c t s =
        run-keeps (plan-grows m f t s) (λ i u r. part_at p m b es c i u r) (λ i u r. part_at p (suc m) b' es c i u r)
        (λ i u r. part_at-grows m b b' h es c i u r)
    value_at-grows m b b' h (freeze e) c t s = value_at-grows m b b' h e (frozen_frame t c) t s
    value_at-grows m b b' h (reference r) c t s = h (reference_aim p r c t) s
    value_at-grows m b b' h (invoke n at l) c t s = h (call_aim p n at l c t) s

    pub part_at-grows : (m : ℕ) (b b' : Below Daton NodePosition) → ((a : NodeAim) (s : ℕ) → Keeps (b a s) (b' a s))
        → (es : PlainNodes) (c : Context) (i t s : ℕ) → Keeps (part_at p m b es c i t s) (part_at p (suc m) b' es c i t s)
    part_at-grows m b b' h no_nodes c i t s x d = d
    part_at-grows m b b' h (node e es) c zero t s x d = value_at-grows m b b' h e c t s x d
    part_at-grows m b b' h (node e es) c (suc i) t s x d = part_at-grows m b b' h es c i t s x d

  pub node_value-grows : Grows (node_value p)
  node_value-grows m b b' h x t s = value_at-grows m b b' h x.node x.context t s

  pub node_hval-up : (g : Given Daton) (m n : ℕ) → m ≤ n → (e : PlainNode) (c : Context) (t s : ℕ) → Keeps (node_hval p g m e c t s) (node_hval p g n e c t s)
  node_hval-up g m n h e c t s = approximation-up (node_value p) node_value-grows g m n h (record { node = e; context = c }) t s

  -- so at most one value is meant
  pub node-meant_once : (b : Elements) (e : PlainNode) (c : Context) (t s : ℕ) (v w : PlainValue) → NodeMeans p b e c t s v → NodeMeans p b e c t s w → v ≡ w
  node-meant_once b e c t s v w h g =
      let q : node_val p b (max h.0 g.0) e c t s ≡ Some v = node_hval-up (nothing_held b) h.0 (max h.0 g.0) (omega arith) e c t s v h.1 in
      let r : node_val p b (max h.0 g.0) e c t s ≡ Some w = node_hval-up (nothing_held b) g.0 (max h.0 g.0) (omega arith) e c t s w g.1 in
      cc

  -- with references that have at least the values that they had, a node at the same limit keeps its value
  mutual
    value_at-keeps : (m : ℕ) (b b' : Below Daton NodePosition) → ((a : NodeAim) (s : ℕ) → GoesByItsDaton p a → Keeps (b a s) (b' a s))
        → (e : PlainNode) (c : Context) (t s : ℕ) → Keeps (value_at p m b e c t s) (value_at p m b' e c t s)
    value_at-keeps m b b' h (row f es) c t s =
        run-keeps (within_itself (plan m f t s)) (λ i u r. part_at p m b es c i u r) (λ i u r. part_at p m b' es c i u r)
        (λ i u r. part_at-keeps m b b' h es c i u r)
    value_at-keeps m b b' h (freeze e) c t s = value_at-keeps m b b' h e (frozen_frame t c) t s
    value_at-keeps m b b' h (reference r) c t s = h (reference_aim p r c t) s (reference-by_daton p r c t)
    value_at-keeps m b b' h (invoke n at l) c t s = h (call_aim p n at l c t) s (call-by_daton p n at l c t)

    pub part_at-keeps : (m : ℕ) (b b' : Below Daton NodePosition) → ((a : NodeAim) (s : ℕ) → GoesByItsDaton p a → Keeps (b a s) (b' a s))
        → (es : PlainNodes) (c : Context) (i t s : ℕ) → Keeps (part_at p m b es c i t s) (part_at p m b' es c i t s)
    part_at-keeps m b b' h no_nodes c i t s x d = d
    part_at-keeps m b b' h (node e es) c zero t s x d = value_at-keeps m b b' h e c t s x d
    part_at-keeps m b b' h (node e es) c (suc i) t s x d = part_at-keeps m b b' h es c i t s x d

  pub node_value-keeps : (m : ℕ) (b b' : Below Daton NodePosition) → ((a : NodeAim) (s : ℕ) → GoesByItsDaton p a → Keeps (b a s) (b' a s))
      → (x : NodePosition) (t s : ℕ) → Keeps (node_value p m b x t s) (node_value p m b' x t s)
  node_value-keeps m b b' h x t s = value_at-keeps m b b' h x.node x.context t s
