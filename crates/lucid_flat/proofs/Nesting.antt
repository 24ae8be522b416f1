-- Scopes round others, and depths, where the scopes' rows are right.
use Rattle.lucid_flat.proofs.SoundCommon.{◌≡◌, ℕ, zero, suc, ◌<◌, ◌≤◌, List, refl, sym, ◌∙◌, ap, subst, arith, same_Some, ScopeIs, IsRound, HasDepth, itself, further, outermost, ScopeKind, ScopeRow, ScopeIsRight, AllRight}
use Rattle.lucid_equations.specs.Sound.HasDepth.{deeper}

abbrev parent_in : ScopeRow → ℕ
parent_in r = r.parent

-- a scope has one parent
pub one-parent : (xs : List ScopeRow) (s p q : ℕ) (j k : ScopeKind) → ScopeIs xs s p j → ScopeIs xs s q k → p ≡ q
one-parent xs s p q j k a b = ap parent_in (same_Some (record { parent = p; kind = j }) (record { parent = q; kind = k }) (sym a ∙ b))

-- what is round a scope round another is round that
pub round-then : (xs : List ScopeRow) (a b c : ℕ) → IsRound xs a b → IsRound xs b c → IsRound xs a c
round-then xs a b c h itself = h
round-then xs a b c h (further {p = p} at g) = further at (round-then xs a b p h g)

-- a scope has one depth
pub zero-depth : (xs : List ScopeRow) (s d : ℕ) → s ≡ 0 → HasDepth xs s d → d ≡ 0
zero-depth xs s d e outermost = refl
zero-depth xs s d e (deeper low at h) = absurd (omega (arith, low, e))

pub one-depth : (xs : List ScopeRow) (s d e : ℕ) → HasDepth xs s d → HasDepth xs s e → d ≡ e
one-depth xs s d e outermost h = sym (zero-depth xs 0 e refl h)
one-depth xs s d e (deeper {n = n} low at g) outermost = absurd (omega (arith, low))
one-depth xs s d e (deeper {p = p} {n = n} {k = j} low at g) (deeper {p = q} {n = m} {k = k} low2 at2 h) =
    let same = one-parent xs s p q j k at at2 in
    let P : ℕ → Type 0 = λ z. HasDepth xs z m in
    ap suc (one-depth xs p n m g (subst P (sym same) h))

-- a scope is one deeper than its parent
pub one-deeper : (xs : List ScopeRow) (s p d e : ℕ) (k : ScopeKind) → 0 < s → ScopeIs xs s p k → HasDepth xs s d → HasDepth xs p e → d ≡ suc e
one-deeper xs s p d e k low at outermost h = absurd (omega (arith, low))
one-deeper xs s p d e k low at (deeper {p = q} {n = n} {k = j} low2 at2 g) h =
    let P : ℕ → Type 0 = λ z. HasDepth xs z n in
    ap suc (one-depth xs p n e (subst P (one-parent xs s q p j k at2 at) g) h)

module _ (xs : List ScopeRow) (right : AllRight ScopeIsRight xs) where
  -- a parent's number is no greater
  pub parent-low : (s p : ℕ) (k : ScopeKind) → ScopeIs xs s p k → p ≤ s
  parent-low zero p k at = let e = ap parent_in ((right 0 (record { parent = p; kind = k }) at).first refl) in omega (arith, e)
  parent-low (suc s) p k at = let h = (right (suc s) (record { parent = p; kind = k }) at).lower (omega arith) in omega (arith, h)

  pub round-low : (h s : ℕ) → IsRound xs h s → h ≤ s
  round-low h s itself = omega arith
  round-low h s (further {p = p} {k = k} at g) = omega (arith, parent-low s p k at, round-low h p g)

  -- a depth is no greater than the number
  pub depth-low : (s d : ℕ) → HasDepth xs s d → d ≤ s
  depth-low s d outermost = omega arith
  depth-low s d (deeper {p = p} {n = n} {k = k} low at g) =
      let h = (right s (record { parent = p; kind = k }) at).lower low in
      omega (arith, depth-low p n g, h)

  -- what is round another scope is no deeper
  pub round-shallow : (h s l d : ℕ) → IsRound xs h s → HasDepth xs h l → HasDepth xs s d → l ≤ d
  round-shallow h s l d itself hl sd = let e = one-depth xs h l d hl sd in omega (arith, e)
  round-shallow h s l d (further {p = p} {k = k} at g) hl outermost =
      let low = parent-low 0 p k at in
      let none = round-low h p g in
      let e = zero-depth xs h l (omega (arith, low, none)) hl in omega (arith, e)
  round-shallow h s l d (further {p = p} {k = k} at g) hl (deeper {p = q} {n = n} {k = j} low at2 sd) =
      let P : ℕ → Type 0 = λ z. HasDepth xs z n in
      let r = round-shallow h p l n g hl (subst P (one-parent xs s q p j k at2 at) sd) in omega (arith, r)

  -- one scope of a depth is round a scope
  itself-or : (h s l : ℕ) → IsRound xs h s → HasDepth xs h l → HasDepth xs s l → h ≡ s
  itself-or h s l itself hl sl = refl
  itself-or h s l (further {p = p} {k = k} at g) hl outermost = let low = parent-low 0 p k at in let none = round-low h p g in omega (arith, low, none)
  itself-or h s l (further {p = p} {k = k} at g) hl (deeper {p = q} {n = n} {k = j} low at2 sd) =
      let P : ℕ → Type 0 = λ z. HasDepth xs z n in
      let r = round-shallow h p (suc n) n g hl (subst P (one-parent xs s q p j k at2 at) sd) in absurd (omega (arith, r))

  pub one-round : (g h s l : ℕ) → IsRound xs g s → IsRound xs h s → HasDepth xs g l → HasDepth xs h l → g ≡ h
  one-round g h s l itself b gl hl = sym (itself-or h s l b hl gl)
  one-round g h s l (further at a) itself gl hl = itself-or g s l (further at a) gl hl
  one-round g h s l (further {p = p} {k = k} at a) (further {p = q} {k = j} at2 b) gl hl =
      let P : ℕ → Type 0 = λ z. IsRound xs h z in
      one-round g h p l a (subst P (one-parent xs s q p j k at2 at) b) gl hl
