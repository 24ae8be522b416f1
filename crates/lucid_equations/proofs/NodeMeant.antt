-- Held values that are meant give only values that nodes mean, and more of them take no value away.
use Rattle.lucid_equations.proofs.Common.{◌≡◌, ℕ, zero, suc, max, Option, Some, None, refl, ap, ◌∙◌, ◌⊎◌, inl, inr, arith, PlainValue, plan, element_of, goes_to, nowhere, Given, or_else, Below, below, Keeps, run-keeps, Context, frozen_frame, PlainNode, row, freeze, reference, invoke, PlainNodes, no_nodes, node, Equations, Daton, NodePosition, NodeAim, reference_aim, call_aim, value_at, part_at, node_value, node_hval, NodeMeans, GoesByItsDaton, HeldIsMeant}
use Rattle.lucid_tree.proofs.LevelGrowth.{or_else-held}
use Rattle.lucid_tree.proofs.RunsMeant.{plan-up, reader-up, run-meant}
use Rattle.lucid_tree.proofs.LevelMeant.{Gathers, approximation-meant}
use Rattle.lucid_equations.specs.Laws.{HoldsMore}
use Rattle.lucid_equations.proofs.NodeAims.{reference-by_daton, call-by_daton}
use Rattle.lucid_equations.proofs.NodeGrowth.{part_at-grows, node_value-grows, node-meant_once, node_value-keeps}

module _ (p : Equations) where
  -- any position may be reached
  abbrev Anywhere : NodePosition → Type 0
  Anywhere x = Unit {0}

  module _ (m : ℕ) (b : Below Daton NodePosition) (bs : ℕ → Below Daton NodePosition)
      (grows : (n : ℕ) (a : NodeAim) (s : ℕ) → Keeps (bs n a s) (bs (suc n) a s))
      (meant : (a : NodeAim) (s : ℕ) (v : PlainValue) → GoesByItsDaton p a → b a s ≡ Some v → (n : ℕ) × (bs n a s ≡ Some v)) where
    mutual
      value_at-gathers : (e : PlainNode) (c : Context) (t s : ℕ) (v : PlainValue) → value_at p m b e c t s ≡ Some v
          → (n : ℕ) × (value_at p n (bs n) e c t s ≡ Some v)
      value_at-gathers (row f es) c t s v d =
          let steps = λ (n i u r : ℕ). part_at-grows p n (bs n) (bs (suc n)) (grows n) es c i u r in
          let h = run-meant (λ n i u r. part_at p n (bs n) es c i u r) steps (λ i u r. part_at p m b es c i u r) (λ i u r w k. part_at-gathers es c i u r w k)
          (plan m f t s) v d in
          let n : ℕ = max m h.0 in (
            n,
            run-keeps (plan-up m n (omega arith) f t s) (λ i u r. part_at p h.0 (bs h.0) es c i u r) (λ i u r. part_at p n (bs n) es c i u r)
                (reader-up (λ j i u r. part_at p j (bs j) es c i u r) steps h.0 n (omega arith)) v h.1,
          )
      value_at-gathers (freeze e) c t s v d = value_at-gathers e (frozen_frame t c) t s v d
      value_at-gathers (reference r) c t s v d = meant (reference_aim p r c t) s v (reference-by_daton p r c t) d
      value_at-gathers (invoke n at l) c t s v d = meant (call_aim p n at l c t) s v (call-by_daton p n at l c t) d

      part_at-gathers : (es : PlainNodes) (c : Context) (i t s : ℕ) (v : PlainValue) → part_at p m b es c i t s ≡ Some v
          → (n : ℕ) × (part_at p n (bs n) es c i t s ≡ Some v)
      part_at-gathers no_nodes c i t s v d = (0, d)
      part_at-gathers (node e es) c zero t s v d = value_at-gathers e c t s v d
      part_at-gathers (node e es) c (suc i) t s v d = part_at-gathers es c i t s v d

  node_value-gathers : Gathers (node_value p) Anywhere (GoesByItsDaton p)
  node_value-gathers m b bs grows meant x t s v a d = value_at-gathers m b bs grows meant x.node x.context t s v d

  pub node_hval-meant : (g : Given Daton) → HeldIsMeant p g → (m : ℕ) (e : PlainNode) (c : Context) (t s : ℕ) (v : PlainValue)
      → node_hval p g m e c t s ≡ Some v → NodeMeans p g.element e c t s v
  node_hval-meant g held_meant m e c t s v d =
      approximation-meant (node_value p) Anywhere (GoesByItsDaton p) (node_value-grows p) node_value-gathers (λ k x u a. tt) g
      (λ k x u r w a h. held_meant k x u r w (a k x u refl) h) m (record { node = e; context = c }) t s v tt d

  module _ (g h : Given Daton) (more : HoldsMore g h) (held_meant : HeldIsMeant p h) where
    -- a value that is held, or one that is found, where what is held is the same
    first_or_found : (o r : Option PlainValue) (v : PlainValue) → r ≡ Some v → ((w : PlainValue) → o ≡ Some w → w ≡ v) → or_else o r ≡ Some v
    first_or_found None r v e f = e
    first_or_found (Some w) r v e f = ap Some (f w refl)

    by_either : (o r : Option PlainValue) (v : PlainValue) → or_else o r ≡ Some v → (o ≡ Some v) ⊎ (r ≡ Some v)
    by_either None r v e = inr e
    by_either (Some w) r v e = inl e

    below-more : (m : ℕ) (a : NodeAim) (s : ℕ) → GoesByItsDaton p a → Keeps (below (node_value p) g m a s) (below (node_value p) h m a s)
    below-more zero (element_of n j) s y v e = e
    below-more zero (goes_to k x u) s y v e = more.held k s v e
    below-more zero nowhere s y v e = e
    below-more (suc m) (element_of n j) s y v e = ap (λ f. f n j) more.elements ∙ e
    below-more (suc m) (goes_to k x u) s y v e =
        elim (by_either (g.held k s) (node_value p m (below (node_value p) g m) x u s) v e) [
          | inl q ↦ or_else-held (h.held k s) (node_value p m (below (node_value p) h m) x u s) v (more.held k s v q)
          | inr q ↦ (
              let found : node_value p m (below (node_value p) h m) x u s ≡ Some v =
              node_value-keeps p m (below (node_value p) g m) (below (node_value p) h m) (below-more m) x u s v q in
              first_or_found (h.held k s) (node_value p m (below (node_value p) h m) x u s) v found
              (λ w i. node-meant_once p h.element x.node x.context u s w v (held_meant k x u s w (y k x u refl) i)
              (node_hval-meant h held_meant m x.node x.context u s v found))
              )
        ]
    below-more (suc m) nowhere s y v e = e

    pub node_hval-more : (m : ℕ) (e : PlainNode) (c : Context) (t s : ℕ) → Keeps (node_hval p g m e c t s) (node_hval p h m e c t s)
    node_hval-more m e c t s = node_value-keeps p m (below (node_value p) g m) (below (node_value p) h m) (below-more m) (record { node = e; context = c }) t s
