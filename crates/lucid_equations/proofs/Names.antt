-- Names that differ from all before them.
use Rattle.lucid_equations.proofs.Common.{◌≡◌, ℕ, zero, suc, ◌<◌, Bool, true, false, List, [], ◌∷◌, ◌++◌, length, take, get_or, Bor, refl, sym, ap, subst, inl, inr, arith, ◌∙◌, Decides, In, AllDiffer, in_left, in_right, in_either, not, cond, Ordering, slice_cmp, bytes_decides, nat_cmp, is_eq, is_eq-slice_cmp, not-false}
use Rattle.lucid_tree.proofs.Members.{one_more-differs}

-- the order of borrowed names
abbrev pub names_cmp : Bor (List ℕ) → Bor (List ℕ) → Ordering
names_cmp a b = slice_cmp nat_cmp a.now b.now

-- names that compare as equal are one
equal-decides : (x y : List ℕ) → Decides (is_eq (slice_cmp nat_cmp x y)) (x ≡ y)
equal-decides x y = subst (λ b. Decides b (x ≡ y)) (sym (is_eq-slice_cmp x y)) (bytes_decides x y)

either-decides : (same had : Bool) (x y : List ℕ) (xs : List (List ℕ)) → Decides same (x ≡ y) → Decides had (In y xs)
    → Decides (cond same true had) (In y (xs ++ x ∷ []))
either-decides true had x y xs d h = ((λ e. in_right y xs (x ∷ []) (inl (sym (d.0 refl)))), λ q. refl)
either-decides false had x y xs d h = (
  (λ e. in_left y xs (x ∷ []) (h.0 e)),
  λ q. elim (in_either y xs (x ∷ []) q)
      [ inl r ↦ h.1 r | inr r ↦ elim r [ inl e ↦ absurd (grind (arith, d.1 (sym e))) | inr z ↦ absurd z ] ],
)

-- what stands among the names with x behind them
pub one_more-decides : (has had : Bool) (x y : List ℕ) (xs : List (List ℕ)) → has ≡ cond (is_eq (slice_cmp nat_cmp x y)) true had → Decides had (In y xs)
    → Decides has (In y (xs ++ x ∷ []))
one_more-decides has had x y xs is h = subst (λ b. Decides b (In y (xs ++ x ∷ []))) (sym is)
    (either-decides (is_eq (slice_cmp nat_cmp x y)) had x y xs (equal-decides x y) h)

-- a name that stands before itself
not_twice : (x : List ℕ) (xs ys : List (List ℕ)) → In x xs → AllDiffer (xs ++ x ∷ ys) → ⊥
not_twice x [] ys h d = h
not_twice x (y ∷ xs) ys (inl e) d = d.0 (in_right y xs (x ∷ ys) (inl (sym e)))
not_twice x (y ∷ xs) ys (inr h) d = not_twice x xs ys h d.1

denied : (had new : Bool) → new ≡ not had → new ≡ true → had ≡ true → ⊥
denied had new e h k = grind (arith, e, h, k)

-- one name more, which is new
pub new-differs : (names : List (List ℕ)) (x : List ℕ) (had new : Bool) → Decides had (In x names) → new ≡ not had → new ≡ true → AllDiffer names
    → AllDiffer (names ++ x ∷ [])
new-differs names x had new among is granted_so d = one_more-differs x names (λ q. denied had new is granted_so (among.1 q)) d

-- one that is not
pub old-repeats : (names rest : List (List ℕ)) (x : List ℕ) (had new : Bool) → Decides had (In x names) → new ≡ not had → new ≡ false
    → AllDiffer (names ++ x ∷ rest) → ⊥
old-repeats names rest x had new among is denied_so d = not_twice x names rest (among.0 (not-false had (sym is ∙ denied_so))) d

-- a list with an item in it
pub split-at : (xs : List (List ℕ)) (i : ℕ) (x other : List ℕ) → i < length xs → x ≡ get_or xs i other → (rest : List (List ℕ)) × (xs ≡ take i xs ++ x ∷ rest)
split-at [] i x other h is = absurd (omega (arith, h))
split-at (y ∷ xs) zero x other h is = (xs, ap (λ z. z ∷ xs) (sym is))
split-at (y ∷ xs) (suc i) x other h is = let r = split-at xs i x other (omega (arith, h)) is in (r.0, ap (λ l. y ∷ l) r.1)
