-- The task after everything that only moves the point: it stands for the one before, and enters only what that one enters.
use Rattle.lucid_demand_steps.proofs.Common.{◌≡◌, ℕ, zero, suc, ◌<◌, ◌⊎◌, inl, inr, [], ◌∷◌, Option, Some, None, refl, sym, ap, subst, ◌∙◌, arith, filter_map, In, Elements, entered_of, inside-read, Context, frozen_frame, IsInRange, Table, PlainTask, IsTask, moved, passed, StandsFor, visits_of}
use Rattle.lucid_tags.specs.Contexts.{frames, cut}
use Rattle.lucid_tags.proofs.ContextLemmas.{cut-base_of, cut-above}
use Rattle.lucid_demand_steps.specs.Parts.{on_with, passed_in, passed_contexts}
use Rattle.lucid_demand_steps.proofs.Standing.{stands-itself, stands-then}
use Rattle.lucid_demand_steps.proofs.MovingRows.{Moves, moved-moves, moves-stand}

-- What so many steps lead to.
record Leads (T : Table) (y x : PlainTask) : Type 0 where
  pub stands : StandsFor T [] y x
  pub there : IsTask T y
  pub limit : y.limit ≡ x.limit

module _ (T : Table) (range : IsInRange T) where
  leads-on : (n : ℕ) → ((y : PlainTask) → IsTask T y → Leads T (passed_in T n y) y) → (x : PlainTask) → IsTask T x → (o : Option PlainTask) → moved T x ≡ o
      → Leads T (on_with o x (λ y. passed_in T n y)) x
  leads-on n on x there None e = record { stands = stands-itself T x; there = there; limit = refl }
  leads-on n on x there (Some y) e =
      let m = moved-moves T range x y e in
      let p = on y (omega (arith, m.lower, there)) in
      record { stands = stands-then T [] [] (passed_in T n y) y x p.stands (moves-stand T x y m); there = p.there; limit = p.limit ∙ m.limit }

  leads : (n : ℕ) (x : PlainTask) → IsTask T x → Leads T (passed_in T n x) x
  leads zero x there = record { stands = stands-itself T x; there = there; limit = refl }
  leads (suc n) x there = leads-on n (leads n) x there (moved T x) refl

  stops-on : (n : ℕ) → ((y : PlainTask) → y.node < n → moved T (passed_in T n y) ≡ None) → (x : PlainTask) → x.node < suc n → (o : Option PlainTask)
      → moved T x ≡ o
      → moved T (on_with o x (λ y. passed_in T n y)) ≡ None
  stops-on n on x low None e = e
  stops-on n on x low (Some y) e = let m = moved-moves T range x y e in on y (omega (arith, low, m.lower))

  stops : (n : ℕ) (x : PlainTask) → x.node < n → moved T (passed_in T n x) ≡ None
  stops zero x low = absurd (omega (arith, low))
  stops (suc n) x low = stops-on n (stops n) x low (moved T x) refl

  -- The task after everything that only moves the point stands for the one before. It doesn't move the point, and has the same limit.
  pub passed-stands : (x : PlainTask) → IsTask T x
      → StandsFor T [] (passed T x) x × (moved T (passed T x) ≡ None) × IsTask T (passed T x) × ((passed T x).limit ≡ x.limit)
  passed-stands x there = let p = leads (suc x.node) x there in (p.stands, stops (suc x.node) x (omega arith), p.there, p.limit)

  -- More steps than the node's number make no difference.
  same-on : (n m : ℕ) → ((y : PlainTask) → y.node < n → y.node < m → passed_in T n y ≡ passed_in T m y) → (x : PlainTask) → x.node < suc n → x.node < suc m
      → (o : Option PlainTask) → moved T x ≡ o → on_with o x (λ y. passed_in T n y) ≡ on_with o x (λ y. passed_in T m y)
  same-on n m on x low few None e = refl
  same-on n m on x low few (Some y) e = let p = moved-moves T range x y e in on y (omega (arith, low, p.lower)) (omega (arith, few, p.lower))

  same-end : (n m : ℕ) (x : PlainTask) → x.node < n → x.node < m → passed_in T n x ≡ passed_in T m x
  same-end zero m x low few = absurd (omega (arith, low))
  same-end (suc n) zero x low few = absurd (omega (arith, few))
  same-end (suc n) (suc m) x low few = same-on n m (same-end n m) x low few (moved T x) refl

  same-way-on : (n m : ℕ) → ((y : PlainTask) → y.node < n → y.node < m → passed_contexts T n y ≡ passed_contexts T m y) → (x : PlainTask) → x.node < suc n
      → x.node < suc m
      → (o : Option PlainTask) → moved T x ≡ o → on_with o [] (λ y. y.context ∷ passed_contexts T n y) ≡ on_with o [] (λ y. y.context ∷ passed_contexts T m y)
  same-way-on n m on x low few None e = refl
  same-way-on n m on x low few (Some y) e =
      let p = moved-moves T range x y e in ap (λ cs. y.context ∷ cs) (on y (omega (arith, low, p.lower)) (omega (arith, few, p.lower)))

  same-way : (n m : ℕ) (x : PlainTask) → x.node < n → x.node < m → passed_contexts T n x ≡ passed_contexts T m x
  same-way zero m x low few = absurd (omega (arith, low))
  same-way (suc n) zero x low few = absurd (omega (arith, few))
  same-way (suc n) (suc m) x low few = same-way-on n m (same-way n m) x low few (moved T x) refl

  -- The task after all moves is that after one and then the others; the contexts on the way are that of the one and those of the others.
  pub passed-once : (x y : PlainTask) → moved T x ≡ Some y → passed T x ≡ passed T y
  passed-once x y h =
      let p = moved-moves T range x y h in
      ap (λ o. on_with o x (λ z. passed_in T x.node z)) h ∙ same-end x.node (suc y.node) y p.lower (omega arith)

  pub passed-way : (x y : PlainTask) → moved T x ≡ Some y → passed_contexts T (suc x.node) x ≡ y.context ∷ passed_contexts T (suc y.node) y
  passed-way x y h =
      let p = moved-moves T range x y h in
      ap (λ o. on_with o [] (λ z. z.context ∷ passed_contexts T x.node z)) h ∙ ap (λ cs. y.context ∷ cs) (same-way x.node (suc y.node) y p.lower (omega arith))

  -- Each context on the way is the task's own, or one that it enters.
  module _ (b : Elements) (m e : ℕ) where
    through : (x y : PlainTask) (c : Context) → Moves T y x → (c ≡ y.context) ⊎ In c (filter_map entered_of (visits_of T b m e y))
        → (c ≡ x.context) ⊎ In c (filter_map entered_of (visits_of T b m e x))
    through x y c p (inl h) = elim (p.context b m e)
        [ inl s ↦ inl (h ∙ s) | inr i ↦ inr (subst (λ z. In z (filter_map entered_of (visits_of T b m e x))) (sym h) i) ]
    through x y c p (inr i) = inr (inside-read entered_of (visits_of T b m e y) (visits_of T b m e x) (p.visits b m e) c i)

    enters-on : (n : ℕ) → ((y : PlainTask) (c : Context) → In c (passed_contexts T n y) → (c ≡ y.context) ⊎ In c (filter_map entered_of (visits_of T b m e y)))
        → (x : PlainTask) (c : Context) (o : Option PlainTask) → moved T x ≡ o → In c (on_with o [] (λ y. y.context ∷ passed_contexts T n y))
        → (c ≡ x.context) ⊎ In c (filter_map entered_of (visits_of T b m e x))
    enters-on n on x c None h i = absurd i
    enters-on n on x c (Some y) h (inl s) = through x y c (moved-moves T range x y h) (inl s)
    enters-on n on x c (Some y) h (inr i) = through x y c (moved-moves T range x y h) (on y c i)

    enters : (steps : ℕ) (x : PlainTask) (c : Context) → In c (passed_contexts T steps x) → (c ≡ x.context) ⊎ In c (filter_map entered_of (visits_of T b m e x))
    enters zero x c i = absurd i
    enters (suc n) x c i = enters-on n (enters n) x c (moved T x) refl i

    pub passing-enters : (x : PlainTask) (steps : ℕ) (c : Context) → In c (passed_contexts T steps x)
        → (c ≡ x.context) ⊎ In c (filter_map entered_of (visits_of T b m e x))
    passing-enters x steps c i = enters steps x c i

-- Without its innermost frame, which is a frozen time, a context is that on which the time was frozen.
pub cut-is_base : (u : ℕ) (c : Context) → cut (frames c) (frozen_frame u c) ≡ Some c
cut-is_base u c = cut-base_of (frozen_frame u c) (frames c) refl

-- A context has no more frames than it has.
pub cut-is_none : (level : ℕ) (c : Context) → frames c < level → cut level c ≡ None
cut-is_none level c h = cut-above c level h
