-- Contexts that fit a scope: their innermost frame, and that each, cut at the depth of a scope round it, fits that scope.
use Rattle.lucid_flat.proofs.SoundCommon.{◌≡◌, ◌≢◌, ℕ, suc, ◌≤◌, Some, slice_get, refl, sym, ◌∙◌, ap, subst, arith, same_Some, Context, root, call_frame, frozen_frame, ScopeIs, IsRound, HasDepth, NameIs, itself, further, outermost, ScopeKind, ScopeRow, Called, PlaceRow, Table, Fits, empty, called, frozen}
use Rattle.lucid_tags.specs.Contexts.{frames, cut}
use Rattle.lucid_tags.proofs.ContextLemmas.{cut-call_frame, cut-frozen_frame, cut-frames}
use Rattle.lucid_equations.specs.Sound.{ScopesNest}
use Rattle.lucid_equations.specs.Sound.HasDepth.{deeper}
use Rattle.lucid_equations.specs.declared.rows.ScopeKind.TheVariants.{Root, Called as CalledScope, Frozen as FrozenScope}

called-not_root : CalledScope ≢ Root
called-not_root e = cc

frozen-not_root : FrozenScope ≢ Root
frozen-not_root e = cc

called-not_frozen : CalledScope ≢ FrozenScope
called-not_frozen e = cc

pub same-row : (T : Table) (s p q : ℕ) (j k : ScopeKind) → ScopeIs T.scopes s p j → ScopeIs T.scopes s q k
    → ◌≡◌ {A = ScopeRow} (record { parent = p; kind = j }) (record { parent = q; kind = k })
same-row T s p q j k a b = same_Some (record { parent = p; kind = j }) (record { parent = q; kind = k }) (sym a ∙ b)

pub same-parent : (T : Table) (s p q : ℕ) (j k : ScopeKind) → ScopeIs T.scopes s p j → ScopeIs T.scopes s q k → p ≡ q
same-parent T s p q j k a b = ap (λ (r : ScopeRow). r.parent) (same-row T s p q j k a b)

pub same-kind : (T : Table) (s p q : ℕ) (j k : ScopeKind) → ScopeIs T.scopes s p j → ScopeIs T.scopes s q k → j ≡ k
same-kind T s p q j k a b = ap (λ (r : ScopeRow). r.kind) (same-row T s p q j k a b)

zero-depth : (T : Table) (s l : ℕ) → s ≡ 0 → HasDepth T.scopes s l → l ≡ 0
zero-depth T s l e outermost = refl
zero-depth T s l e (deeper low at h) = absurd (omega (arith, low, e))

module _ (T : Table) (nest : ScopesNest T) where
  -- the depth of the scope round a scope that is no root
  one-less : (s p l : ℕ) (k : ScopeKind) → k ≢ Root → ScopeIs T.scopes s p k → HasDepth T.scopes s l → (n : ℕ) × (l ≡ suc n) × HasDepth T.scopes p n
  one-less s p l k other at outermost = absurd (other (same-kind T 0 p 0 k Root at nest.first))
  one-less s p l k other at (deeper {p = q} {n = n} {k = j} low at2 h) = (n, refl, subst (λ z. HasDepth T.scopes z n) (same-parent T s q p j k at2 at) h)

  -- the depth of a scope is the number of frames of what fits it
  depth-frames : (c : Context) (s l : ℕ) → Fits T c s → HasDepth T.scopes s l → l ≡ frames c
  depth-frames c s l empty h = zero-depth T 0 l refl h
  depth-frames c s l (called {parent = p} {base = base} at there named caller fits) h =
      let z = one-less s p l CalledScope called-not_root at h in z.1 ∙ ap suc (depth-frames base p z.0 fits z.2)
  depth-frames c s l (frozen {parent = p} {base = base} at fits) h =
      let z = one-less s p l FrozenScope frozen-not_root at h in z.1 ∙ ap suc (depth-frames base p z.0 fits z.2)

  -- the innermost frame of what fits a called scope
  pub record CalledFrame (c : Context) (s : ℕ) : Type 0 where
    pub place : ℕ
    pub row : PlaceRow
    pub body : ℕ
    pub caller : Context
    pub base : Context
    pub is : c ≡ call_frame place caller base
    pub there : slice_get T.places place ≡ Some row
    pub calls : NameIs T row.name s (Called body)
    pub from : Fits T caller row.scope

  pub called-frame : (c : Context) (s p : ℕ) → ScopeIs T.scopes s p CalledScope → Fits T c s → CalledFrame c s
  called-frame c s p at empty = absurd (called-not_root (same-kind T 0 p 0 CalledScope Root at nest.first))
  called-frame c s p at (called {q = q} {body = body} {r = r} {caller = caller} {base = base} at2 there calls from fits) =
      record { place = q; row = r; body = body; caller = caller; base = base; is = refl; there = there; calls = calls; from = from }
  called-frame c s p at (frozen {parent = o} at2 fits) = absurd (called-not_frozen (same-kind T s p o CalledScope FrozenScope at at2))

  -- that of what fits a frozen one
  pub record FrozenFrame (c : Context) (p : ℕ) : Type 0 where
    pub time : ℕ
    pub base : Context
    pub is : c ≡ frozen_frame time base
    pub fits : Fits T base p

  pub frozen-frame : (c : Context) (s p : ℕ) → ScopeIs T.scopes s p FrozenScope → Fits T c s → FrozenFrame c p
  frozen-frame c s p at empty = absurd (frozen-not_root (same-kind T 0 p 0 FrozenScope Root at nest.first))
  frozen-frame c s p at (called {parent = o} at2 there calls from fits) = absurd (called-not_frozen (same-kind T s o p CalledScope FrozenScope at2 at))
  frozen-frame c s p at (frozen {parent = o} {u = u} {base = base} at2 fits) =
      record { time = u; base = base; is = refl; fits = subst (Fits T base) (same-parent T s o p FrozenScope FrozenScope at2 at) fits }

  -- the context cut at the depth of a scope
  pub record Outer (c : Context) (home level : ℕ) : Type 0 where
    pub context : Context
    pub is : cut level c ≡ Some context
    pub fits : Fits T context home
    pub low : level ≤ frames c

  pub fits-cut : (home l : ℕ) → HasDepth T.scopes home l → (c : Context) (s : ℕ) → Fits T c s → IsRound T.scopes home s → Outer c home l
  fits-cut home l h c s fits itself =
      let all : l ≡ frames c = depth-frames c home l fits h in
      record { context = c; is = ap (λ z. cut z c) all ∙ cut-frames c; fits = fits; low = omega (arith, all) }
  fits-cut home l h c s empty (further {p = p} {k = k} at g) =
      let first : 0 ≡ p = same-parent T 0 0 p Root k nest.first at in
      fits-cut home l h root p (subst (Fits T root) first empty) g
  fits-cut home l h c s (called {parent = o} {q = q} {caller = caller} {base = base} at2 there named from fits) (further {p = p} {k = k} at g) =
      let z = fits-cut home l h base p (subst (Fits T base) (same-parent T s o p CalledScope k at2 at) fits) g in
      record { context = z.context; is = cut-call_frame l q caller base z.low ∙ z.is; fits = z.fits; low = omega (arith, z.low) }
  fits-cut home l h c s (frozen {parent = o} {u = u} {base = base} at2 fits) (further {p = p} {k = k} at g) =
      let z = fits-cut home l h base p (subst (Fits T base) (same-parent T s o p FrozenScope k at2 at) fits) g in
      record { context = z.context; is = cut-frozen_frame l u base z.low ∙ z.is; fits = z.fits; low = omega (arith, z.low) }
