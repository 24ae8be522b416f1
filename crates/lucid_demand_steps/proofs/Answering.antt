-- What answers a task without looking at parts: what is held of its daton, an element, a constant. And where it has no value at all.
use Rattle.lucid_demand_steps.proofs.Common.{◌≡◌, ℕ, zero, suc, ◌<◌, ◌++◌, inl, inr, List, Some, None, refl, sym, ap, ◌∙◌, subst, arith, IsTrue, IsSome, filter_map, PlainValue, const, In, Elements, Given, nothing_held, goes_to, reference_of, Context, PlainNode, row, freeze, reference, invoke, no_nodes, Equations, Daton, NodePosition, NodeAim, node_aim, daton_aim, node_hval, node_val, NodeMeans, node_visits, IsNeeded, equations_of, node-by_daton, PlainTask, DatonAt, node_of, IsReference, RefersTo, Holding, given, hval_of, val_of, IsDefined, DatonMeans, HoldsRight, IsClosed, Demand, table_of, stays, Answers, IsWanted, MayRead}
use Rattle.lucid_tree.specs.Levels.{deeper, element_of, nowhere}
use Rattle.lucid_equations.specs.Nodes.{refer}
use Rattle.lucid_equations.specs.Visits.{NodeEvents, node_walk, context_of}
use Rattle.lucid_equations.proofs.Needs as law
use Rattle.lucid_demand_steps.specs.Decisions.{LooksTooDeep, leads_nowhere, too_deep_for, element_too_deep, IsConstant}

-- the position, and the time, with which an aim goes on
abbrev pub position_of : NodePosition → NodeAim → NodePosition
position_of z (goes_to k y u) = y
position_of z _ = z

abbrev pub time_of : NodeAim → ℕ
time_of (goes_to k y u) = u
time_of _ = 0

-- a daton that means a value goes on with a node that means it
pub daton-means : (p : Equations) (b : Elements) (k : DatonAt) (v : PlainValue) (x : NodePosition) (u : ℕ) → DatonMeans p b k v
    → daton_aim p k.0 ≡ goes_to k.0 x u
    → NodeMeans p b x.node x.context u k.1 v
daton-means p b k v x u m aim =
    let y : m.position ≡ x = ap (position_of x) (sym m.aim ∙ aim) in
    let t : m.time ≡ u = ap time_of (sym m.aim ∙ aim) in
    subst (λ i. NodeMeans p b x.node x.context i k.1 v) t (subst (λ z. NodeMeans p b z.node z.context m.time k.1 v) y m.means)

-- What is held of its daton answers a reference, unless the policy empties.
pub held-answers : (d : Demand) (b : Elements) (h : Holding) (lost : ℕ) (x : PlainTask) (k : DatonAt) (v : PlainValue) → RefersTo (table_of d) x k
    → h k.0 k.1 ≡ Some v
    → (IsTrue d.first.empties → ⊥) → HoldsRight (equations_of (table_of d)) b h
    → (IsTrue d.first.keeps → lost ≡ 0 → IsClosed (equations_of (table_of d)) b h) → Answers d b h lost x v
held-answers d b h lost x k v r e not_emptying right closed = record {
  means = (
    suc there.0,
    (law.reference-value (equations_of (table_of d)) (nothing_held b) there.0 (node_of (table_of d) x) x.context x.time x.space k.0 r.position r.time r.aim).0
        ∙ there.1,
  );
  exact = λ empties. absurd (not_emptying empties);
  kept = λ keeps none q n. elim (law.reference-needs (equations_of (table_of d)) b (node_of (table_of d) x) x.context x.time x.space k.0 r.position r.time r.aim
      q n) [
        | inl i ↦ subst (λ a. IsSome (h a.0 a.1)) (sym i) held
        | inr i ↦ closed keeps none k.0 r.position r.time x.space held aim q i
      ];
}
  where
    aim : daton_aim (equations_of (table_of d)) k.0 ≡ goes_to k.0 r.position r.time
    aim = node-by_daton (equations_of (table_of d)) (node_of (table_of d) x) x.context x.time k.0 r.position r.time r.aim

    there : NodeMeans (equations_of (table_of d)) b r.position.node r.position.context r.time x.space v
    there = subst (λ s. NodeMeans (equations_of (table_of d)) b r.position.node r.position.context r.time s v) r.space
        (daton-means (equations_of (table_of d)) b k v r.position r.time (right k.0 k.1 v e) aim)

    held : IsSome (h k.0 x.space)
    held = subst (λ s. IsSome (h k.0 s)) r.space (subst (λ o. IsSome o) (sym e) refl)

no_goal : (n : List ℕ) (j : ℕ) → ◌≡◌ {A = NodeAim} nowhere (element_of n j) → ⊥
no_goal n j e = absurd (cc)

module _ (p : Equations) (b : Elements) (n : List ℕ) (j : ℕ) where
  abbrev met : (m : ℕ) → NodeAim → (space : ℕ) → NodeEvents
  met m a s = deeper (node_walk p (nothing_held b)) m 0 a s

  element_meets_none : (m s : ℕ) (k : Daton × ℕ) → In k (filter_map reference_of (met m (element_of n j) s)) → ⊥
  element_meets_none zero s k i = i
  element_meets_none (suc m) s k i = i

  visits_none : (m : ℕ) (e : PlainNode) (c : Context) (t s : ℕ) → node_aim p e c t ≡ element_of n j → (k : Daton × ℕ)
      → In k (filter_map reference_of (node_visits p b m 0 e c t s)) → ⊥
  visits_none m (row f es) c t s h k i = absurd (no_goal n j h)
  visits_none m (freeze e) c t s h k i = absurd (no_goal n j h)
  visits_none m (reference r) c t s h k i = element_meets_none m s k (subst (λ a. In k (filter_map reference_of (met m a s))) h i)
  visits_none m (invoke q at l) c t s h k i = element_meets_none m s k (subst (λ a. In k (filter_map reference_of (context_of a ++ met m a s))) h i)

  -- What goes on with an element needs no daton.
  pub element-needs_none : (e : PlainNode) (c : Context) (t s : ℕ) → node_aim p e c t ≡ element_of n j → (k : Daton × ℕ) → IsNeeded p b e c t s k → ⊥
  element-needs_none e c t s h k i = visits_none i.0 e c t s h k i.3

-- An element answers an input that may read.
pub element-answers : (d : Demand) (b : Elements) (h : Holding) (lost : ℕ) (x : PlainTask) (n : List ℕ) (j : ℕ) (v : PlainValue) → MayRead (table_of d) x n j
    → b n j ≡ Some v
    → Answers d b h lost x v
element-answers d b h lost x n j v r e = record {
  means = (1, value 1 (omega arith));
  exact = λ empties. value x.limit r.deep;
  kept = λ keeps none k i. absurd (element-needs_none (equations_of (table_of d)) b n j (node_of (table_of d) x) x.context x.time x.space r.aim k i);
}
  where
    value : (m : ℕ) → 0 < m → val_of (table_of d) b m x ≡ Some v
    value zero lt = absurd (omega (arith, lt))
    value (suc m) lt = (law.element-value (equations_of (table_of d)) (nothing_held b) m (node_of (table_of d) x) x.context x.time x.space n j r.aim).0 ∙ e

-- A constant answers its node.
pub constant-answers : (d : Demand) (b : Elements) (h : Holding) (lost : ℕ) (x : PlainTask) (v : PlainValue) → IsConstant (table_of d) x v
    → Answers d b h lost x v
constant-answers d b h lost x v e = record {
  means = (0, value 0);
  exact = λ empties. value x.limit;
  kept =
      λ keeps none k i.
      absurd (no_need k i.0 (subst (λ z. In k (filter_map reference_of (node_visits (equations_of (table_of d)) b i.0 0 z x.context x.time x.space))) e i.3));
}
  where
    value : (m : ℕ) → val_of (table_of d) b m x ≡ Some v
    value m = ap (λ z. node_val (equations_of (table_of d)) b m z x.context x.time x.space) e

    no_need : (k : DatonAt) (m : ℕ)
        → In k (filter_map reference_of (node_visits (equations_of (table_of d)) b m 0 (row (const v) no_nodes) x.context x.time x.space)) → ⊥
    no_need k m i = i

nowhere_is_undefined : (p : Equations) (g : Given Daton) (m : ℕ) (e : PlainNode) (c : Context) (t s : ℕ) → IsReference e → node_aim p e c t ≡ nowhere
    → node_hval p g m e c t s ≡ None
nowhere_is_undefined p g m (reference (refer n l)) c t s i h = (law.nowhere-value p g m c t s).0 (refer n l) h
nowhere_is_undefined p g m (invoke n at l) c t s i h = (law.nowhere-value p g m c t s).1 n at l h
nowhere_is_undefined p g m _ c t s i h = absurd i

-- A task that looks too deep is refused rightly, where its daton doesn't stay held: the root's approximation is undefined.
pub too_deep-is_right : (d : Demand) (b : Elements) (x : PlainTask) → IsWanted d b x → LooksTooDeep (table_of d) x
    → ((k : DatonAt) → RefersTo (table_of d) x k → stays d k.0 k.1 ≡ None) → IsDefined (table_of d) b (stays d) d.root → ⊥
too_deep-is_right d b x wanted why lacks root = go why (wanted.needed root)
  where
    undefined : (v : PlainValue) → hval_of (table_of d) b (stays d) x.limit x ≡ Some v → hval_of (table_of d) b (stays d) x.limit x ≡ None → ⊥
    undefined v e n = absurd (cc)

    go : LooksTooDeep (table_of d) x → IsDefined (table_of d) b (stays d) x → ⊥
    go (leads_nowhere i a) g =
        undefined g.0 g.1 (nowhere_is_undefined (equations_of (table_of d)) (given b (stays d)) x.limit (node_of (table_of d) x) x.context x.time x.space i a)
    go (too_deep_for {k = k} q z) g =
        undefined g.0 g.1 (ap (λ m. hval_of (table_of d) b (stays d) m x) z
        ∙ (law.reference-value (equations_of (table_of d)) (given b (stays d)) 0 (node_of (table_of d) x) x.context x.time x.space k.0 q.position q.time
        q.aim).1
        ∙ ap (λ s. stays d k.0 s) (sym q.space) ∙ lacks k q)
    go (element_too_deep {n = n} {j = j} a z) g =
        undefined g.0 g.1 (ap (λ m. hval_of (table_of d) b (stays d) m x) z
        ∙ (law.element-value (equations_of (table_of d)) (given b (stays d)) 0 (node_of (table_of d) x) x.context x.time x.space n j a).1)
