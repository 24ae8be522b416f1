-- Where a node has a value, each daton that it goes to has one at a lower limit, and all that this visits the node visits.
use Rattle.lucid_equations.proofs.Common.{◌≡◌, ℕ, zero, suc, ◌+◌, ◌≤◌, ◌<◌, List, Some, refl, sym, ◌∙◌, subst, add-zero, inl, inr, arith, PlainValue, In, Inside, plan, element_of, goes_to, nowhere, Elements, nothing_held, below, deeper, looked_up, referred, entered, in_right, in_either, Context, frozen_frame, PlainNode, row, freeze, reference, invoke, PlainNodes, no_nodes, node, Equations, Daton, NodePosition, NodeAim, reference_aim, call_aim, daton_aim, value_at, part_at, node_value, node_val, NodeEvents, context_of, walk_at, walk_part, node_walk, node_visits, GoesByItsDaton}
use Rattle.lucid_tree.specs.Levels.{Event}
use Rattle.lucid_equations.proofs.NodeAims.{reference-by_daton, call-by_daton}
use Rattle.lucid_equations.proofs.Looked.{looked-inside, look-found, looked-defined}

module _ (p : Equations) (b : Elements) (d : Daton) (x : NodePosition) (u r : ℕ) where
  abbrev event : Event Daton NodePosition Context
  event = referred d x u r

  not_entered : (c : Context) → event ≡ entered c → ⊥
  not_entered c e = cc

  not_looked_up : (n : List ℕ) (j : ℕ) → event ≡ looked_up n j → ⊥
  not_looked_up n j e = cc

  no_context : (a : NodeAim) → In event (context_of a) → ⊥
  no_context (element_of n j) i = i
  no_context (goes_to k y w) (inl e) = not_entered k.context e
  no_context (goes_to k y w) (inr i) = i
  no_context nowhere i = i

  -- a reference that has a value comes to the event, and all that it meets is among these
  record Comes (m : ℕ) (deep : NodeAim → ℕ → NodeEvents) (xs : NodeEvents) : Type 0 where
    aim : NodeAim
    space : ℕ
    value : PlainValue
    by_daton : GoesByItsDaton p aim
    has : below (node_value p) (nothing_held b) m aim space ≡ Some value
    meets : In event (deep aim space)
    inside : Inside (deep aim space) xs

  comes-inside : (m : ℕ) (deep : NodeAim → ℕ → NodeEvents) (xs ys : NodeEvents) → Inside xs ys → Comes m deep xs → Comes m deep ys
  comes-inside m deep xs ys h c = record {
    aim = c.aim;
    space = c.space;
    value = c.value;
    by_daton = c.by_daton;
    has = c.has;
    meets = c.meets;
    inside = λ z i. h z (c.inside z i);
  }

  module _ (m : ℕ) (deep : NodeAim → ℕ → NodeEvents) where
    mutual
      walk_at-comes : (e : PlainNode) (c : Context) (t s : ℕ) (v : PlainValue) → value_at p m (below (node_value p) (nothing_held b) m) e c t s ≡ Some v
          → In event (walk_at p (nothing_held b) m 0 deep e c t s) → Comes m deep (walk_at p (nothing_held b) m 0 deep e c t s)
      walk_at-comes (row f es) c t s v h i =
          let decide = λ (j t' s' : ℕ). part_at p (m + 0) (below (node_value p) (nothing_held b) (m + 0)) es c j t' s' in
          let see = λ (j t' s' : ℕ). walk_part p (nothing_held b) m 0 deep es c j t' s' in
          let found = look-found m decide see (plan (m + 0) f t s) event i in
          let zero_more : m + 0 ≡ m = add-zero m in
          let whole : value_at p (m + 0) (below (node_value p) (nothing_held b) (m + 0)) (row f es) c t s ≡ Some v =
          subst (λ n. value_at p n (below (node_value p) (nothing_held b) n) (row f es) c t s ≡ Some v) (sym zero_more) h in
          let had = looked-defined m decide (plan (m + 0) f t s) v whole found.0 found.1 in
          let here : part_at p m (below (node_value p) (nothing_held b) m) es c found.0.0 found.0.1 found.0.2 ≡ Some had.0 =
          subst (λ n. part_at p n (below (node_value p) (nothing_held b) n) es c found.0.0 found.0.1 found.0.2 ≡ Some had.0) zero_more had.1 in
          comes-inside m deep (walk_part p (nothing_held b) m 0 deep es c found.0.0 found.0.1 found.0.2) (walk_at p (nothing_held b) m 0 deep (row f es) c t s)
          (looked-inside m decide see (plan (m + 0) f t s) found.0 found.1) (walk_part-comes es c found.0.0 found.0.1 found.0.2 had.0 here found.2)
      walk_at-comes (freeze e) c t s v h (inl q) = absurd (not_entered (frozen_frame t c) q)
      walk_at-comes (freeze e) c t s v h (inr i) =
          comes-inside m deep (walk_at p (nothing_held b) m 0 deep e (frozen_frame t c) t s) (walk_at p (nothing_held b) m 0 deep (freeze e) c t s)
          (λ z j. inr j) (walk_at-comes e (frozen_frame t c) t s v h i)
      walk_at-comes (reference f) c t s v h i =
          record { aim = reference_aim p f c t; space = s; value = v; by_daton = reference-by_daton p f c t; has = h; meets = i; inside = λ z j. j }
      walk_at-comes (invoke n at l) c t s v h i =
          elim (in_either event (context_of (call_aim p n at l c t)) (deep (call_aim p n at l c t) s) i) [
            | inl j ↦ absurd (no_context (call_aim p n at l c t) j)
            | inr j ↦ record {
              aim = call_aim p n at l c t;
              space = s;
              value = v;
              by_daton = call-by_daton p n at l c t;
              has = h;
              meets = j;
              inside = λ z k. in_right z (context_of (call_aim p n at l c t)) (deep (call_aim p n at l c t) s) k;
            }
          ]

      walk_part-comes : (es : PlainNodes) (c : Context) (i t s : ℕ) (v : PlainValue) → part_at p m (below (node_value p) (nothing_held b) m) es c i t s ≡ Some v
          → In event (walk_part p (nothing_held b) m 0 deep es c i t s) → Comes m deep (walk_part p (nothing_held b) m 0 deep es c i t s)
      walk_part-comes no_nodes c i t s v h j = absurd j
      walk_part-comes (node e es) c zero t s v h j = walk_at-comes e c t s v h j
      walk_part-comes (node e es) c (suc i) t s v h j = walk_part-comes es c i t s v h j

  -- the daton's position has a value at a lower limit, and all that it visits is among these
  pub record Reached (m : ℕ) (xs : NodeEvents) : Type 0 where
    pub limit : ℕ
    pub lower : limit < m
    pub value : PlainValue
    pub has : node_val p b limit x.node x.context u r ≡ Some value
    pub goes : daton_aim p d ≡ goes_to d x u
    pub inside : Inside (node_visits p b limit 0 x.node x.context u r) xs

  reached-inside : (m n : ℕ) (xs ys : NodeEvents) → m ≤ n → Inside xs ys → Reached m xs → Reached n ys
  reached-inside m n xs ys l h c = record {
    limit = c.limit;
    lower = omega (arith, c.lower, l);
    value = c.value;
    has = c.has;
    goes = c.goes;
    inside = λ z i. h z (c.inside z i);
  }

  abbrev deep_at : (m : ℕ) → NodeAim → ℕ → NodeEvents
  deep_at m = deeper (node_walk p (nothing_held b)) m 0

  deeper-reached : (m : ℕ) (a : NodeAim) (s : ℕ) (w : PlainValue) → GoesByItsDaton p a → below (node_value p) (nothing_held b) m a s ≡ Some w
      → In event (deep_at m a s) → Reached m (deep_at m a s)
  deeper-reached zero a s w y h i = absurd i
  deeper-reached (suc m) (element_of n j) s w y h (inl e) = absurd (not_looked_up n j e)
  deeper-reached (suc m) (element_of n j) s w y h (inr i) = absurd i
  deeper-reached (suc m) (goes_to k z q) s w y h (inl e) =
      let same_daton : d ≡ k = cc in
      let same_place : x ≡ z = cc in
      let same_time : u ≡ q = cc in
      let same_space : r ≡ s = cc in
      record {
        limit = m;
        lower = omega arith;
        value = w;
        has = (λ i. node_val p b m (same_place i).node (same_place i).context (same_time i) (same_space i)) ∙ h;
        goes = (λ i. daton_aim p (same_daton i)) ∙ y k z q refl ∙ (λ i. goes_to (sym same_daton i) (sym same_place i) (sym same_time i));
        inside = λ v i. inr (subst (In v) (λ j. node_visits p b m 0 (same_place j).node (same_place j).context (same_time j) (same_space j)) i);
      }
  deeper-reached (suc m) (goes_to k z q) s w y h (inr i) =
      let c = walk_at-comes m (deep_at m) z.node z.context q s w h i in
      reached-inside m (suc m) (deep_at m c.aim c.space) (deep_at (suc m) (goes_to k z q) s) (omega arith) (λ v j. inr (c.inside v j))
      (deeper-reached m c.aim c.space c.value c.by_daton c.has c.meets)
  deeper-reached (suc m) nowhere s w y h i = absurd i

  pub reached : (m : ℕ) (e : PlainNode) (c : Context) (t s : ℕ) (v : PlainValue) → node_val p b m e c t s ≡ Some v → In event (node_visits p b m 0 e c t s)
      → Reached m (node_visits p b m 0 e c t s)
  reached m e c t s v h i =
      let z = walk_at-comes m (deep_at m) e c t s v h i in
      reached-inside m m (deep_at m z.aim z.space) (node_visits p b m 0 e c t s) (omega arith) z.inside
      (deeper-reached m z.aim z.space z.value z.by_daton z.has z.meets)
