-- Values and needs of visited datons, and of references.
use Rattle.lucid_equations.proofs.Common.{◌≡◌, ℕ, zero, suc, List, [], ◌∷◌, ◌++◌, Some, None, refl, sym, ap, ◌∙◌, subst, inl, inr, arith, ◌⊎◌, filter_map, PlainValue, In, Inside, element_of, goes_to, nowhere, Elements, Given, nothing_held, or_else, below, deeper, looked_up, referred, entered, reference_of, in_read, in_right, inside-read, Context, PlainNode, row, freeze, reference, invoke, Reference, Equations, Daton, NodePosition, NodeAim, reference_aim, call_aim, node_aim, daton_aim, node_hval, node_val, node_value, NodeMeans, NodeEvents, context_of, node_walk, node_visits, IsNeeded}
use Rattle.lucid_equations.specs.Needs.{HasValue}
use Rattle.lucid_equations.proofs.NodeGrowth.{node_hval-up}
use Rattle.lucid_equations.proofs.NodeWalks.{needed-visited}
use Rattle.lucid_equations.proofs.Reached.{reached}

-- a daton that is gone to, with where it goes on
pub record GoneTo (d : Daton) (r : ℕ) (xs : NodeEvents) : Type 0 where
  pub position : NodePosition
  pub time : ℕ
  pub there : In (referred d position time r) xs

later : (d : Daton) (r : ℕ) (xs ys : NodeEvents) → Inside xs ys → GoneTo d r xs → GoneTo d r ys
later d r xs ys h g = record { position = g.position; time = g.time; there = h _ g.there }

pub gone-to : (d : Daton) (r : ℕ) (xs : NodeEvents) → In (d, r) (filter_map reference_of xs) → GoneTo d r xs
gone-to d r [] i = absurd i
gone-to d r (looked_up n j ∷ xs) i = later d r xs (looked_up n j ∷ xs) (λ z k. inr k) (gone-to d r xs i)
gone-to d r (referred k y u s ∷ xs) (inl e) =
    let same_daton : d ≡ k = ap (λ q. q.0) e in
    let same_space : r ≡ s = ap (λ q. q.1) e in
    record { position = y; time = u; there = inl (λ i. referred (same_daton i) y u (same_space i)) }
gone-to d r (referred k y u s ∷ xs) (inr i) = later d r xs (referred k y u s ∷ xs) (λ z q. inr q) (gone-to d r xs i)
gone-to d r (entered c ∷ xs) i = later d r xs (entered c ∷ xs) (λ z k. inr k) (gone-to d r xs i)

module _ (p : Equations) (b : Elements) where
  pub daton-value : (m : ℕ) (e : PlainNode) (c : Context) (t s : ℕ) (v : PlainValue) → node_val p b m e c t s ≡ Some v → (d : Daton) (r : ℕ)
      → In (d, r) (filter_map reference_of (node_visits p b m 0 e c t s)) → (w : PlainValue) × HasValue p b m d r w
  daton-value m e c t s v h d r i =
      let g = gone-to d r (node_visits p b m 0 e c t s) i in
      let z = reached p b d g.position g.time r m e c t s v h g.there in (
        z.value,
        record {
          position = g.position;
          time = g.time;
          goes = z.goes;
          value = node_hval-up p (nothing_held b) z.limit m (omega (arith, z.lower)) g.position.node g.position.context g.time r z.value z.has;
        },
      )

  abbrev position_in : NodePosition → NodeAim → NodePosition
  position_in z (goes_to k y u) = y
  position_in z _ = z

  abbrev time_in : NodeAim → ℕ
  time_in (goes_to k y u) = u
  time_in _ = 0

  pub daton-needs : (e : PlainNode) (c : Context) (t s : ℕ) (d : Daton) (r : ℕ) (x : NodePosition) (u : ℕ) (k : Daton × ℕ) → IsNeeded p b e c t s (d, r)
      → daton_aim p d ≡ goes_to d x u → IsNeeded p b x.node x.context u r k → IsNeeded p b e c t s k
  daton-needs e c t s d r x u k n goes q =
      let g = gone-to d r (node_visits p b n.0 0 e c t s) n.3 in
      let z = reached p b d g.position g.time r n.0 e c t s n.1 n.2 g.there in
      let same_place : x ≡ g.position = ap (position_in x) (sym goes ∙ z.goes) in
      let same_time : u ≡ g.time = ap time_in (sym goes ∙ z.goes) in
      let there : IsNeeded p b g.position.node g.position.context g.time r k =
      subst (λ y. IsNeeded p b y.node y.context g.time r k) same_place (subst (λ w. IsNeeded p b x.node x.context w r k) same_time q) in
      let among : In k (filter_map reference_of (node_visits p b z.limit 0 g.position.node g.position.context g.time r)) =
      needed-visited p b z.limit g.position.node g.position.context g.time r z.value k z.has there in (
        n.0,
        n.1,
        n.2,
        inside-read reference_of (node_visits p b z.limit 0 g.position.node g.position.context g.time r) (node_visits p b n.0 0 e c t s) z.inside
            k among,
      )

module _ (p : Equations) where
  -- the events of a reference are those of what it goes on with, behind the context that a call enters
  abbrev met : Elements → (m k : ℕ) → NodeAim → (space : ℕ) → NodeEvents
  met b m k a s = deeper (node_walk p (nothing_held b)) m k a s

  pub aim-value : (g : Given Daton) (m : ℕ) (e : PlainNode) (c : Context) (t s : ℕ) (a : NodeAim) → node_aim p e c t ≡ a → (a ≡ nowhere → ⊥)
      → node_hval p g m e c t s ≡ below (node_value p) g m a s
  aim-value g m (row f es) c t s a h n = absurd (n (sym h))
  aim-value g m (freeze e) c t s a h n = absurd (n (sym h))
  aim-value g m (reference r) c t s a h n = ap (λ z. below (node_value p) g m z s) h
  aim-value g m (invoke i at l) c t s a h n = ap (λ z. below (node_value p) g m z s) h

  pub aim-meets : (b : Elements) (m k : ℕ) (e : PlainNode) (c : Context) (t s : ℕ) (a : NodeAim) → node_aim p e c t ≡ a → (a ≡ nowhere → ⊥)
      → Inside (met b m k a s) (node_visits p b m k e c t s)
  aim-meets b m k (row f es) c t s a h n z j = absurd (n (sym h))
  aim-meets b m k (freeze e) c t s a h n z j = absurd (n (sym h))
  aim-meets b m k (reference r) c t s a h n z i = subst (λ y. In z (met b m k y s)) (sym h) i
  aim-meets b m k (invoke i at l) c t s a h n z j = subst (λ y. In z (context_of y ++ met b m k y s)) (sym h) (in_right z (context_of a) (met b m k a s) j)

  not_goes : (d : Daton) (x : NodePosition) (u : ℕ) → goes_to d x u ≡ nowhere → ⊥
  not_goes d x u h = cc

  not_element : (n : List ℕ) (j : ℕ) → ◌≡◌ {A = NodeAim} (element_of n j) nowhere → ⊥
  not_element n j h = cc

  pub reference-value : (g : Given Daton) (m : ℕ) (e : PlainNode) (c : Context) (t s : ℕ) (d : Daton) (x : NodePosition) (u : ℕ)
      → node_aim p e c t ≡ goes_to d x u → (node_hval p g (suc m) e c t s ≡ or_else (g.held d s) (node_hval p g m x.node x.context u s))
      × (node_hval p g 0 e c t s ≡ g.held d s)
  reference-value g m e c t s d x u h = (
    aim-value g (suc m) e c t s (goes_to d x u) h (not_goes d x u),
    aim-value g 0 e c t s (goes_to d x u) h
        (not_goes d x u),
  )

  pub element-value : (g : Given Daton) (m : ℕ) (e : PlainNode) (c : Context) (t s : ℕ) (n : List ℕ) (j : ℕ) → node_aim p e c t ≡ element_of n j
      → (node_hval p g (suc m) e c t s ≡ g.element n j) × (node_hval p g 0 e c t s ≡ None)
  element-value g m e c t s n j h = (
    aim-value g (suc m) e c t s (element_of n j) h (not_element n j),
    aim-value g 0 e c t s (element_of n j) h
        (not_element n j),
  )

  below-nowhere : (g : Given Daton) (m s : ℕ) → below (node_value p) g m nowhere s ≡ None
  below-nowhere g zero s = refl
  below-nowhere g (suc m) s = refl

  pub nowhere-value : (g : Given Daton) (m : ℕ) (c : Context) (t s : ℕ)
      → ((r : Reference) → reference_aim p r c t ≡ nowhere → node_hval p g m (reference r) c t s ≡ None)
      × ((n at l : ℕ) → call_aim p n at l c t ≡ nowhere → node_hval p g m (invoke n at l) c t s ≡ None)
  nowhere-value g m c t s = (
    λ r h. ap (λ a. below (node_value p) g m a s) h ∙ below-nowhere g m s,
    λ n at l h. ap (λ a. below (node_value p) g m a s) h
        ∙ below-nowhere g m s,
  )

  module _ (b : Elements) where
    pub reference-visits : (m k : ℕ) (e : PlainNode) (c : Context) (t s : ℕ) (d : Daton) (x : NodePosition) (u : ℕ) → node_aim p e c t ≡ goes_to d x u
        → Inside (referred d x u s ∷ node_visits p b m k x.node x.context u s) (node_visits p b (suc m) k e c t s)
    reference-visits m k e c t s d x u h = aim-meets b (suc m) k e c t s (goes_to d x u) h (not_goes d x u)

    pub element-visits : (m k : ℕ) (e : PlainNode) (c : Context) (t s : ℕ) (n : List ℕ) (j : ℕ) → node_aim p e c t ≡ element_of n j
        → In (looked_up n j) (node_visits p b (suc m) k e c t s)
    element-visits m k e c t s n j h = aim-meets b (suc m) k e c t s (element_of n j) h (not_element n j) (looked_up n j) (inl refl)

    -- the datons that a reference goes to
    needs-at : (m : ℕ) (e : PlainNode) (c : Context) (t s : ℕ) (d : Daton) (x : NodePosition) (u : ℕ) → node_aim p e c t ≡ goes_to d x u → (k : Daton × ℕ)
        → In k (filter_map reference_of (node_visits p b (suc m) 0 e c t s))
        → (k ≡ (d, s)) ⊎ In k (filter_map reference_of (node_visits p b m 0 x.node x.context u s))
    needs-at m (row f es) c t s d x u h k i = absurd (not_goes d x u (sym h))
    needs-at m (freeze e) c t s d x u h k i = absurd (not_goes d x u (sym h))
    needs-at m (reference r) c t s d x u h k i = subst (λ a. In k (filter_map reference_of (met b (suc m) 0 a s))) h i
    needs-at m (invoke n at l) c t s d x u h k i = subst (λ a. In k (filter_map reference_of (context_of a ++ met b (suc m) 0 a s))) h i

    need-more : (m : ℕ) (e : PlainNode) (c : Context) (t s : ℕ) (d : Daton) (x : NodePosition) (u : ℕ) → node_aim p e c t ≡ goes_to d x u
        → (k : Daton × ℕ) (v : PlainValue) → node_val p b m e c t s ≡ Some v → In k (filter_map reference_of (node_visits p b m 0 e c t s))
        → (k ≡ (d, s)) ⊎ IsNeeded p b x.node x.context u s k
    need-more zero e c t s d x u h k v a i = let z : None ≡ Some v = sym ((reference-value (nothing_held b) 0 e c t s d x u h).1) ∙ a in absurd (cc)
    need-more (suc m) e c t s d x u h k v a i =
        elim (needs-at m e c t s d x u h k i) [
          | inl q ↦ inl q
          | inr j ↦ inr (m, v, sym ((reference-value (nothing_held b) m e c t s d x u h).0) ∙ a, j)
        ]

    pub reference-needs : (e : PlainNode) (c : Context) (t s : ℕ) (d : Daton) (x : NodePosition) (u : ℕ) → node_aim p e c t ≡ goes_to d x u → (k : Daton × ℕ)
        → IsNeeded p b e c t s k → (k ≡ (d, s)) ⊎ IsNeeded p b x.node x.context u s k
    reference-needs e c t s d x u h k n = need-more n.0 e c t s d x u h k n.1 n.2 n.3

    -- a meaning of the position is one of the reference
    meaning-up : (m : ℕ) (e : PlainNode) (c : Context) (t s : ℕ) (d : Daton) (x : NodePosition) (u : ℕ) → node_aim p e c t ≡ goes_to d x u → (v : PlainValue)
        → node_val p b m x.node x.context u s ≡ Some v → node_val p b (suc m) e c t s ≡ Some v
    meaning-up m e c t s d x u h v a = (reference-value (nothing_held b) m e c t s d x u h).0 ∙ a

    pub reference-needs-all : (e : PlainNode) (c : Context) (t s : ℕ) (d : Daton) (x : NodePosition) (u : ℕ) → node_aim p e c t ≡ goes_to d x u
        → (v : PlainValue) → NodeMeans p b x.node x.context u s v → (k : Daton × ℕ) → (k ≡ (d, s)) ⊎ IsNeeded p b x.node x.context u s k
        → IsNeeded p b e c t s k
    reference-needs-all e c t s d x u h v a k (inl q) = (
      suc a.0,
      v,
      meaning-up a.0 e c t s d x u h v a.1,
      in_read reference_of (referred d x u s) k (node_visits p b (suc a.0) 0 e c t s) (ap Some (sym q))
          (reference-visits a.0 0 e c t s d x u h (referred d x u s) (inl refl)),
    )
    reference-needs-all e c t s d x u h v a k (inr n) = (
      suc n.0,
      n.1,
      meaning-up n.0 e c t s d x u h n.1 n.2,
      inside-read reference_of (node_visits p b n.0 0 x.node x.context u s) (node_visits p b (suc n.0) 0 e c t s)
          (λ z i. reference-visits n.0 0 e c t s d x u h z (inr i)) k n.3,
    )
