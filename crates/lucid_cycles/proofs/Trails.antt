-- Trails back through the levels, and the cycle that a trail closes.
use Rattle.lucid_cycles.proofs.Common.{◌≡◌, ◌≢◌, ℕ, zero, suc, ◌+◌, ◌<◌, ◌≤◌, List, [], ◌∷◌, ◌++◌, length, get_or, take, drop, inl, inr, refl, sym, ap, subst, ◌∙◌, arith, ℤ, pos, ◌+ℤ◌, ◌≤ℤ◌, ◌<ℤ◌, All, ints, some_left, In, AllDiffer, in_left, in_right, Edge, take-append-drop, All-append, edge, first_or, total, Closed, potential, length-take-le, All-from_get_or, All-drop, All-take}
use Rattle.lucid_tree.proofs.Members.{differ_right, differ_both}
use Rattle.lucid_cycles.specs.Cycles.{Leads, IsCycle, IsCycleWithoutDelay}
use Rattle.lucid_cycles.proofs.Sums.{by, by-sum, by-none}

module _ (g : List Edge) (a : ℕ) (h : ℕ → List ℕ) where
  -- a name at a level is made by an edge to one at the level below, and rose at its level
  pub record Down (k x y : ℕ) (w : ℤ) : Type 0 where
    pub stands : In (edge x y w) g
    pub is : pos (potential (h k) y + 1) ≡ pos (potential (h (suc k)) x) +ℤ by a w
    pub rose : potential (h k) x < potential (h (suc k)) x

  -- the names, each at one level less, down to a name at a level
  abbrev pub Trail : (top : ℕ) → (names : List ℕ) → (delays : List ℤ) → (level name : ℕ) → Type 0
  Trail top [] [] k y = top ≡ k
  Trail top [] (w ∷ ws) k y = ⊥
  Trail top (x ∷ xs) [] k y = ⊥
  Trail zero (x ∷ xs) (w ∷ ws) k y = ⊥
  Trail (suc top) (x ∷ xs) (w ∷ ws) k y = Down top x (first_or y xs) w × Trail top xs ws k y

  first-more : (y z : ℕ) (xs : List ℕ) → first_or z (xs ++ y ∷ []) ≡ first_or y xs
  first-more y z [] = refl
  first-more y z (x ∷ xs) = refl

  -- one name more
  pub trail-more : (top : ℕ) (xs : List ℕ) (ws : List ℤ) (k y z : ℕ) (w : ℤ) → Trail top xs ws (suc k) y → Down k y z w
      → Trail top (xs ++ y ∷ []) (ws ++ w ∷ []) k z
  trail-more top [] [] k y z w t d = subst (λ n. Trail n (y ∷ []) (w ∷ []) k z) (sym t) (d, refl)
  trail-more top [] (v ∷ ws) k y z w t d = absurd t
  trail-more top (x ∷ xs) [] k y z w t d = absurd t
  trail-more zero (x ∷ xs) (v ∷ ws) k y z w t d = absurd t
  trail-more (suc top) (x ∷ xs) (v ∷ ws) k y z w t d =
      (subst (λ n. Down top x n v) (sym (first-more y z xs)) t.0, trail-more top xs ws k y z w t.1 d)

  -- the rest of a trail
  pub trail-drop : (i top : ℕ) (xs : List ℕ) (ws : List ℤ) (k y : ℕ) → i ≤ length xs → Trail top xs ws k y
      → (t : ℕ) × (t + i ≡ top) × Trail t (drop i xs) (drop i ws) k y
  trail-drop zero top xs ws k y l t = (top, omega arith, t)
  trail-drop (suc i) top [] ws k y l t = absurd (omega (arith, l))
  trail-drop (suc i) top (x ∷ xs) [] k y l t = absurd t
  trail-drop (suc i) zero (x ∷ xs) (w ∷ ws) k y l t = absurd t
  trail-drop (suc i) (suc top) (x ∷ xs) (w ∷ ws) k y l t =
      let r = trail-drop i top xs ws k y (omega (arith, l)) t.1 in (r.0, omega (arith, r.1), r.2)

  pub trail-length : (top : ℕ) (xs : List ℕ) (ws : List ℤ) (k y : ℕ) → Trail top xs ws k y → (top ≡ length xs + k) × (length ws ≡ length xs)
  trail-length top [] [] k y t = (omega (arith, t), refl)
  trail-length top [] (w ∷ ws) k y t = absurd t
  trail-length top (x ∷ xs) [] k y t = absurd t
  trail-length zero (x ∷ xs) (w ∷ ws) k y t = absurd t
  trail-length (suc top) (x ∷ xs) (w ∷ ws) k y t = let r = trail-length top xs ws k y t.1 in (omega (arith, r.0), omega (arith, r.1))

  pub trail-leads : (top : ℕ) (xs : List ℕ) (ws : List ℤ) (k y : ℕ) → Trail top xs ws k y → Leads g xs ws y
  trail-leads top [] [] k y t = tt
  trail-leads top [] (w ∷ ws) k y t = absurd t
  trail-leads top (x ∷ xs) [] k y t = absurd t
  trail-leads zero (x ∷ xs) (w ∷ ws) k y t = absurd t
  trail-leads (suc top) (x ∷ xs) (w ∷ ws) k y t = (t.0.stands, trail-leads top xs ws k y t.1)

  sum-step : (y n f x : ℕ) (w t s : ℤ) → s ≡ w +ℤ t → pos (y + n) ≡ pos f +ℤ t → pos (f + 1) ≡ pos x +ℤ w → pos (y + suc n) ≡ pos x +ℤ s
  sum-step y n f x w t s e u v = omega (arith, ints)

  pub trail-sum : (top : ℕ) (xs : List ℕ) (ws : List ℤ) (k y : ℕ) → Trail top xs ws k y
      → pos (potential (h k) y + length xs) ≡ pos (potential (h top) (first_or y xs)) +ℤ by a (total ws)
  trail-sum top [] [] k y t =
      let e = by-none a in
      let same : potential (h top) y ≡ potential (h k) y = ap (λ n. potential (h n) y) t in
      omega (arith, ints, e, same)
  trail-sum top [] (w ∷ ws) k y t = absurd t
  trail-sum top (x ∷ xs) [] k y t = absurd t
  trail-sum zero (x ∷ xs) (w ∷ ws) k y t = absurd t
  trail-sum (suc top) (x ∷ xs) (w ∷ ws) k y t =
      sum-step (potential (h k) y) (length xs) (potential (h top) (first_or y xs)) (potential (h (suc top)) x) (by a w) (by a (total ws)) (by a (w +ℤ total ws))
      (by-sum a w (total ws))
      (trail-sum top xs ws k y t.1) t.0.is

  less : (y n x : ℕ) (t : ℤ) → pos (y + n) ≡ pos x +ℤ t → y < x → t <ℤ pos n
  less y n x t e l = omega (arith, ints)

  -- a trail that comes back to its first name has a small sum, where levels only rise
  pub closed-sum : (top : ℕ) (xs : List ℕ) (ws : List ℤ) (k y : ℕ) → Trail top xs ws k y → xs ≢ [] → first_or y xs ≡ y
      → ((i j x : ℕ) → i ≤ j → j ≤ top → potential (h i) x ≤ potential (h j) x)
      → by a (total ws) <ℤ pos (length xs)
  closed-sum top [] ws k y t s e m = absurd (s refl)
  closed-sum top (x ∷ xs) [] k y t s e m = absurd t
  closed-sum zero (x ∷ xs) (w ∷ ws) k y t s e m = absurd t
  closed-sum (suc top) (x ∷ xs) (w ∷ ws) k y t s e m =
      let q = trail-length top xs ws k y t.1 in
      let low : potential (h k) y ≤ potential (h top) y = m k top y (omega (arith, q.0)) (omega arith) in
      let same : potential (h top) x ≡ potential (h top) y = ap (λ n. potential (h top) n) e in
      less (potential (h k) y) (suc (length xs)) (potential (h (suc top)) x) (by a (total (w ∷ ws))) (trail-sum (suc top) (x ∷ xs) (w ∷ ws) k y t)
      (omega (arith, low, same, t.0.rose))

-- turning a cycle
first-append : (z : ℕ) (xs ys : List ℕ) → first_or z (xs ++ ys) ≡ first_or (first_or z ys) xs
first-append z [] ys = refl
first-append z (x ∷ xs) ys = refl

leads-left : (g : List Edge) (xs ys : List ℕ) (ws vs : List ℤ) (z : ℕ) → length xs ≡ length ws → Leads g (xs ++ ys) (ws ++ vs) z → Leads g xs ws (first_or z ys)
leads-left g [] ys [] vs z e l = tt
leads-left g [] ys (w ∷ ws) vs z e l = absurd (omega (arith, e))
leads-left g (x ∷ xs) ys [] vs z e l = absurd (omega (arith, e))
leads-left g (x ∷ xs) ys (w ∷ ws) vs z e l =
    (subst (λ n. In (edge x n w) g) (first-append z xs ys) l.0, leads-left g xs ys ws vs z (omega (arith, e)) l.1)

leads-right : (g : List Edge) (xs ys : List ℕ) (ws vs : List ℤ) (z : ℕ) → length xs ≡ length ws → Leads g (xs ++ ys) (ws ++ vs) z → Leads g ys vs z
leads-right g [] ys [] vs z e l = l
leads-right g [] ys (w ∷ ws) vs z e l = absurd (omega (arith, e))
leads-right g (x ∷ xs) ys [] vs z e l = absurd (omega (arith, e))
leads-right g (x ∷ xs) ys (w ∷ ws) vs z e l = leads-right g xs ys ws vs z (omega (arith, e)) l.1

leads-join : (g : List Edge) (xs ys : List ℕ) (ws vs : List ℤ) (z : ℕ) → Leads g xs ws (first_or z ys) → Leads g ys vs z → Leads g (xs ++ ys) (ws ++ vs) z
leads-join g [] ys [] vs z l m = m
leads-join g [] ys (w ∷ ws) vs z l m = absurd l
leads-join g (x ∷ xs) ys [] vs z l m = absurd l
leads-join g (x ∷ xs) ys (w ∷ ws) vs z l m =
    (subst (λ n. In (edge x n w) g) (sym (first-append z xs ys)) l.0, leads-join g xs ys ws vs z l.1 m)

total-append : (ws vs : List ℤ) → total (ws ++ vs) ≡ total ws +ℤ total vs
total-append [] vs = omega (arith, ints)
total-append (w ∷ ws) vs = let e = total-append ws vs in omega (arith, ints, e)

pub total-turned : (ws vs : List ℤ) → total (vs ++ ws) ≡ total (ws ++ vs)
total-turned ws vs = let e = total-append ws vs in let f = total-append vs ws in omega (arith, ints, e, f)

differ-left : {A : Type 0} (xs ys : List A) → AllDiffer (xs ++ ys) → AllDiffer xs
differ-left [] ys d = tt
differ-left (x ∷ xs) ys d = ((λ i. d.0 (in_left x xs ys i)), differ-left xs ys d.1)

apart : {A : Type 0} (xs ys : List A) → AllDiffer (xs ++ ys) → (x : A) → In x xs → In x ys → ⊥
apart [] ys d x i j = i
apart (y ∷ xs) ys d x (inl e) j = d.0 (in_right y xs ys (subst (λ z. In z ys) e j))
apart (y ∷ xs) ys d x (inr i) j = apart xs ys d.1 x i j

differ-turned : {A : Type 0} (xs ys : List A) → AllDiffer (xs ++ ys) → AllDiffer (ys ++ xs)
differ-turned xs ys d = differ_both ys xs (differ_right xs ys d) (differ-left xs ys d) (λ x i j. apart xs ys d x j i)

first-some : (y z : ℕ) (xs : List ℕ) → xs ≢ [] → first_or y xs ≡ first_or z xs
first-some y z [] s = absurd (s refl)
first-some y z (x ∷ xs) s = refl

some-append : (xs ys : List ℕ) → ys ≢ [] → ys ++ xs ≢ []
some-append xs [] s e = s refl
some-append xs (y ∷ ys) s e = cc

-- a cycle begun further on
pub turned : (g : List Edge) (xs ys : List ℕ) (ws vs : List ℤ) → length xs ≡ length ws → ys ≢ [] → IsCycle g (xs ++ ys) (ws ++ vs)
    → IsCycle g (ys ++ xs) (vs ++ ws)
turned g xs ys ws vs e s c =
    let z : ℕ = first_or 0 (xs ++ ys) in
    let y : ℕ = first_or 0 (ys ++ xs) in
    let at_y : first_or z ys ≡ y = first-some z (first_or 0 xs) ys s ∙ sym (first-append 0 ys xs) in
    let at_z : z ≡ first_or y xs =
    first-append 0 xs ys ∙ ap (λ n. first_or n xs) (first-some 0 (first_or 0 xs) ys s ∙ sym (first-append 0 ys xs)) in
    record {
      some = some-append xs ys s;
      leads = leads-join g ys xs vs ws y
          (subst (Leads g ys vs) at_z (leads-right g xs ys ws vs z e c.leads))
          (subst (Leads g xs ws) at_y (leads-left g xs ys ws vs z e c.leads));
      once = differ-turned xs ys c.once;
    }

leads-length : (g : List Edge) (xs : List ℕ) (ws : List ℤ) (z : ℕ) → Leads g xs ws z → length ws ≡ length xs
leads-length g [] [] z l = refl
leads-length g [] (w ∷ ws) z l = absurd l
leads-length g (x ∷ xs) [] z l = absurd l
leads-length g (x ∷ xs) (w ∷ ws) z l = omega (arith, leads-length g xs ws z l.1)

pub cycle-length : (g : List Edge) (xs : List ℕ) (ws : List ℤ) → IsCycle g xs ws → length ws ≡ length xs
cycle-length g xs ws c = leads-length g xs ws (first_or 0 xs) c.leads

pub cycle-some : (g : List Edge) (xs : List ℕ) (ws : List ℤ) → IsCycle g xs ws → 0 < length xs
cycle-some g [] ws c = absurd (c.some refl)
cycle-some g (x ∷ xs) ws c = omega arith

pub firsts : (xs : List ℕ) (i z : ℕ) → i < length xs → first_or z (drop i xs) ≡ get_or xs i z
firsts [] i z h = absurd (omega (arith, h))
firsts (x ∷ xs) zero z h = refl
firsts (x ∷ xs) (suc i) z h = firsts xs i z (omega (arith, h))

least-first : (xs : List ℕ) (i d : ℕ) → i < length xs → first_or d (drop i xs ++ take i xs) ≡ get_or xs i d
least-first [] i d h = absurd (omega (arith, h))
least-first (x ∷ xs) zero d h = refl
least-first (x ∷ xs) (suc i) d h = first-append d (drop i xs) (x ∷ take i xs) ∙ first-some x d (drop i xs) (some_left xs i (omega (arith, h)))
    ∙ firsts xs i d (omega (arith, h))

-- a cycle without delay, begun at its least name
pub begun-cycle : (g : List Edge) (xs : List ℕ) (ws : List ℤ) (i : ℕ) (us : List ℕ) (vs : List ℤ) → Closed g xs ws → i < length xs
    → ((k : ℕ) → k < length xs → get_or xs i 0 ≤ get_or xs k 0)
    → us ≡ drop i xs ++ take i xs → vs ≡ drop i ws ++ take i ws → IsCycleWithoutDelay g us vs
begun-cycle g xs ws i us vs c h l eu ev =
    let same : length ws ≡ length xs = cycle-length g xs ws c.cycle in
    let parts : length (take i xs) ≡ length (take i ws) = length-take-le i xs (omega (arith, h)) ∙ sym (length-take-le i ws (omega (arith, h, same))) in
    let whole : IsCycle g (take i xs ++ drop i xs) (take i ws ++ drop i ws) =
    subst (λ x. IsCycle g x (take i ws ++ drop i ws)) (sym (take-append-drop i xs)) (subst (IsCycle g xs) (sym (take-append-drop i ws)) c.cycle) in
    let turn : IsCycle g (drop i xs ++ take i xs) (drop i ws ++ take i ws) =
    turned g (take i xs) (drop i xs) (take i ws) (drop i ws) parts (some_left xs i h) whole in
    let sum : total (drop i ws ++ take i ws) ≡ total ws = total-turned (take i ws) (drop i ws) ∙ ap total (take-append-drop i ws) in
    let least : All (λ x. get_or xs i 0 ≤ x) xs = All-from_get_or (λ x. get_or xs i 0 ≤ x) xs 0 l in
    let here : All (λ x. get_or xs i 0 ≤ x) (drop i xs ++ take i xs) =
    All-append (λ x. get_or xs i 0 ≤ x) (drop i xs) (take i xs) (All-drop (λ x. get_or xs i 0 ≤ x) i xs least) (All-take (λ x. get_or xs i 0 ≤ x) i xs least) in
    subst (λ u. IsCycleWithoutDelay g u vs) (sym eu) (subst (IsCycleWithoutDelay g (drop i xs ++ take i xs)) (sym ev)
    (record {
      cycle = turn;
      sum = subst (λ t. t ≤ℤ pos 0) (sym sum) c.sum;
      begins = subst (λ n. All (λ x. n ≤ x) (drop i xs ++ take i xs)) (sym (least-first xs i 0 h)) here;
    }))
