-- How many different items a list has, and no list of different items is longer than one that has them all.
use Rattle.lucid_session.proofs.Common.{◌≡◌, ℕ, suc, Bool, true, false, List, refl, sym, ap, subst, inl, inr, ◌⊎◌, Decides, not_from_Decides, In, HasDistinct}
use Rattle.std.proofs.Common.{[], ◌∷◌}

module _ {A : Type 0} where
  module _ (same : A → A → Bool) (decides : (x y : A) → Decides (same x y) (x ≡ y)) where
    -- an item stands in a list, or doesn't
    pub in_or_not : (x : A) (xs : List A) → In x xs ⊎ (In x xs → ⊥)
    in_or_not x [] = inr (λ i. i)
    in_or_not x (y ∷ ys) = by (same x y) refl (in_or_not x ys)
      where
        by : (t : Bool) → same x y ≡ t → In x ys ⊎ (In x ys → ⊥) → In x (y ∷ ys) ⊎ (In x (y ∷ ys) → ⊥)
        by true e r = inl (inl ((decides x y).0 e))
        by false e (inl i) = inl (inr i)
        by false e (inr n) = inr (λ i. elim i [ inl h ↦ not_from_Decides (same x y) (decides x y) e h | inr j ↦ n j ])

    one-more : (x : A) (xs : List A) (n : ℕ) → HasDistinct xs n → In x xs ⊎ (In x xs → ⊥) → (k : ℕ) × HasDistinct (x ∷ xs) k
    one-more x xs n h (inl i) = (
      n,
      record {
        items = h.items;
        once = h.once;
        inside = λ y j. inr (h.inside y j);
        outside = λ y j. elim j [ inl e ↦ subst (λ z. In z h.items) (sym e) (h.outside x i) | inr q ↦ h.outside y q ];
        size = h.size;
      },
    )
    one-more x xs n h (inr not) = (
      suc n,
      record {
        items = x ∷ h.items;
        once = ((λ i. not (h.inside x i)), h.once);
        inside = λ y j. elim j [ inl e ↦ inl e | inr q ↦ inr (h.inside y q) ];
        outside = λ y j. elim j [ inl e ↦ inl e | inr q ↦ inr (h.outside y q) ];
        size = ap suc h.size;
      },
    )

    -- Each list has a number of different items.
    pub counted : (xs : List A) → (n : ℕ) × HasDistinct xs n
    counted [] = (0, record { items = []; once = tt; inside = λ x i. i; outside = λ x i. i; size = refl })
    counted (x ∷ xs) = let r = counted xs in one-more x xs r.0 r.1 (in_or_not x xs)
