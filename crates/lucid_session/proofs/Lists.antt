-- What stands in a list that is made of several; and optional values.
use Rattle.lucid_session.proofs.Common.{◌≡◌, List, Option, None, refl, sym, subst, map, inl, inr, true≢false, IsSome, flat_map, In, in_left, in_right, in_either}
use Rattle.std.proofs.Common.{[], ◌∷◌, Some}

module _ {A B : Type 0} (f : A → List B) where
  -- an item that stands in what one of them gives
  pub record From (y : B) (xs : List A) : Type 0 where
    pub item : A
    pub among : In item xs
    pub gives : In y (f item)

  pub from_flat : (y : B) (xs : List A) → In y (flat_map f xs) → From y xs
  from_flat y [] i = absurd i
  from_flat y (x ∷ xs) i = elim (in_either y (f x) (flat_map f xs) i) [
    | inl j ↦ record { item = x; among = inl refl; gives = j }
    | inr j ↦ let r = from_flat y xs j in record { item = r.item; among = inr r.among; gives = r.gives }
  ]

  pub in_flat : (y : B) (x : A) (xs : List A) → In x xs → In y (f x) → In y (flat_map f xs)
  in_flat y x [] i j = absurd i
  in_flat y x (z ∷ xs) (inl e) j = in_left y (f z) (flat_map f xs) (subst (λ v. In y (f v)) e j)
  in_flat y x (z ∷ xs) (inr i) j = in_right y (f z) (flat_map f xs) (in_flat y x xs i j)

module _ {A B : Type 0} (f : A → B) where
  -- an item of the image is that of an item
  pub record FromMap (y : B) (xs : List A) : Type 0 where
    pub item : A
    pub among : In item xs
    pub is : y ≡ f item

  pub from_map : (y : B) (xs : List A) → In y (map f xs) → FromMap y xs
  from_map y [] i = absurd i
  from_map y (x ∷ xs) (inl e) = record { item = x; among = inl refl; is = e }
  from_map y (x ∷ xs) (inr i) = let r = from_map y xs i in record { item = r.item; among = inr r.among; is = r.is }

-- what is nothing isn't there;
pub is_none : {A : Type 0} (o : Option A) → o ≡ None → IsSome o → ⊥
is_none None e h = true≢false (sym h)
is_none (Some x) e h = cc

-- and what is some value is there
pub some_is : {A : Type 0} (o : Option A) (v : A) → o ≡ Some v → IsSome o
some_is None v e = cc
some_is (Some x) v e = refl
