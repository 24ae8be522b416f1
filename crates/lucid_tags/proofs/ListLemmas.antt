-- Items of lists.
use Rattle.lucid_tags.proofs.Common.{◌≡◌, ℕ, zero, suc, ◌⊎◌, inl, inr, Bool, true, false, not, if◌then◌else◌, List, length, refl, ap, subst, slice_get, list_any}
use Rattle.std.proofs.Common.{[], ◌∷◌, ◌++◌, Some}
use Rattle.std.proofs.lemmas.Bool.{or_parts}

-- where no item passes, each fails
pub fails-list_any : {X : Type 0} (test : X → Bool) (xs : List X) → list_any test xs ≡ false → (i : ℕ) (x : X) → slice_get xs i ≡ Some x → test x ≡ false
fails-list_any test [] h i x at = absurd (cc)
fails-list_any test (y ∷ xs) h zero x at = let p : y ≡ x = cc in subst (λ q. test q ≡ false) p (or_parts (test y) (list_any test xs) h).0
fails-list_any test (y ∷ xs) h (suc i) x at = fails-list_any test xs (or_parts (test y) (list_any test xs) h).1 i x at

pub none_passes : (b : Bool) → true ≡ not b → b ≡ false
none_passes true h = absurd (cc)
none_passes false h = refl

-- the items after one is inserted
pub inserted-present : {X : Type 0} (b : Bool) (xs : List X) (x : X) → false ≡ not b → (if b then xs else xs ++ x ∷ []) ≡ xs
inserted-present true xs x h = refl
inserted-present false xs x h = absurd (cc)

pub inserted-absent : {X : Type 0} (b : Bool) (xs : List X) (x : X) → true ≡ not b → (if b then xs else xs ++ x ∷ []) ≡ xs ++ x ∷ []
inserted-absent true xs x h = absurd (cc)
inserted-absent false xs x h = refl

-- an item of a longer list is one of the list, or the last
pub slice_get-push : {X : Type 0} (xs : List X) (x y : X) (i : ℕ) → slice_get (xs ++ x ∷ []) i ≡ Some y
    → (slice_get xs i ≡ Some y) ⊎ ((i ≡ length xs) × (x ≡ y))
slice_get-push [] x y zero h = inr (refl, cc)
slice_get-push [] x y (suc i) h = absurd (cc)
slice_get-push (z ∷ xs) x y zero h = inl h
slice_get-push (z ∷ xs) x y (suc i) h =
    elim (slice_get-push xs x y i h) [ inl p ↦ inl p | inr p ↦ inr (ap suc p.0, p.1) ]
