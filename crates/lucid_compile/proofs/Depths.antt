-- Scopes in a table: the level of what is in scope is the depth of its scope, and what is round it has a scope round its own.
use Rattle.lucid_compile.proofs.Common.{◌≡◌, ℕ, suc, ◌+◌, Bool, true, false, if◌then◌else◌, List, ◌⊎◌, inl, inr, Some, slice_get, refl, sym, ap, ◌∙◌, subst, arith, ScopeRow, ScopeIs, HasDepth, PlainDefs, freezes, frame, level, IsOpen, IsScopeRow, ScopesHold, IsRound, itself, further}
use Rattle.lucid_equations.specs.Sound.{deeper, outermost as no_depth}
use Rattle.lucid_compile.specs.Static.{Static, outermost, in_block, in_function}
use Rattle.lucid_compile.proofs.Pairs.{row-at}
use Rattle.lucid_compile.proofs.Apart.{AreApart}

-- the first is the second, or stands round it
abbrev pub IsOutside : (outer inner : Static) → Type 0
IsOutside h outermost = h ≡ outermost
IsOutside h (in_block ds k) = (h ≡ in_block ds k) ⊎ IsOutside h k
IsOutside h (in_function d ns ats k) = (h ≡ in_function d ns ats k) ⊎ IsOutside h k

-- the row of a scope, with its parent
pub record ScopeRowOf (xs : List ScopeRow) (ks : List Static) (scope : ℕ) (k : Static) : Type 0 where
  pub row : ScopeRow
  pub there : ScopeIs xs scope row.parent row.kind
  pub is : IsScopeRow ks scope row k

pub scope-row : (xs : List ScopeRow) (ks : List Static) → ScopesHold ks xs ks → (i : ℕ) (k : Static) → slice_get ks i ≡ Some k → ScopeRowOf xs ks i k
scope-row xs ks h i k e =
    let r = row-at (IsScopeRow ks) 0 xs ks i k h e in
    let n : 0 + i ≡ i = omega arith in
    record { row = r.row; there = r.there; is = subst (λ j. IsScopeRow ks j r.row k) n r.is }

module _ (xs : List ScopeRow) (ks : List Static) (h : ScopesHold ks xs ks) where
  block-depth : (ds : PlainDefs) (k : Static) (i : ℕ) (b : Bool) → freezes ds ≡ b → slice_get ks i ≡ Some (if b then in_block ds k else frame k)
      → ((j : ℕ) → IsOpen ks j k → HasDepth xs j (level k)) → HasDepth xs i (if b then suc (level k) else level k)
  block-depth ds k i true e o inner =
      let r = scope-row xs ks h i (in_block ds k) o in
      deeper {s = i} {p = r.row.parent} {n = level k} {k = r.row.kind} (omega (arith, r.is.1)) r.there (inner r.row.parent r.is.2)
  block-depth ds k i false e o inner = inner i o

  pub depths : (k : Static) (i : ℕ) → IsOpen ks i k → HasDepth xs i (level k)
  depths outermost i o =
      let r = scope-row xs ks h i outermost o in
      subst (λ n. HasDepth xs n 0) (sym r.is.0) no_depth
  depths (in_block ds k) i o = block-depth ds k i (freezes ds) refl o (λ j q. depths k j q)
  depths (in_function d ns ats k) i o =
      let r = scope-row xs ks h i (in_function d ns ats k) o in
      deeper {s = i} {p = r.row.parent} {n = level k} {k = r.row.kind} (omega (arith, r.is.1)) r.there (depths k r.row.parent r.is.2)

  module _ (apart : AreApart ks) (q : Static) (o : ℕ) (open_there : IsOpen ks o q) where
    same-round : (k : Static) (i : ℕ) → q ≡ k → IsOpen ks i k → IsRound xs o i
    same-round k i e a =
        let one : o ≡ i = apart o i (frame q) open_there (a ∙ ap (λ v. Some (frame v)) (sym e)) in
        subst (λ n. IsRound xs o n) one itself

    block-round : (ds : PlainDefs) (k : Static) (i : ℕ) (b : Bool) → freezes ds ≡ b → slice_get ks i ≡ Some (if b then in_block ds k else frame k)
        → ((j : ℕ) → IsOpen ks j k → IsRound xs o j) → IsRound xs o i
    block-round ds k i true e a inner =
        let r = scope-row xs ks h i (in_block ds k) a in
        further {s = i} {p = r.row.parent} {k = r.row.kind} r.there (inner r.row.parent r.is.2)
    block-round ds k i false e a inner = inner i a

    pub rounds : (k : Static) (i : ℕ) → IsOutside q k → IsOpen ks i k → IsRound xs o i
    rounds outermost i e a = same-round outermost i e a
    rounds (in_block ds k) i (inl e) a = same-round (in_block ds k) i e a
    rounds (in_block ds k) i (inr r) a = block-round ds k i (freezes ds) refl a (λ j b. rounds k j r b)
    rounds (in_function d ns ats k) i (inl e) a = same-round (in_function d ns ats k) i e a
    rounds (in_function d ns ats k) i (inr r) a =
        let row = scope-row xs ks h i (in_function d ns ats k) a in
        further {s = i} {p = row.row.parent} {k = row.row.kind} row.there (rounds k row.row.parent r row.is.2)
