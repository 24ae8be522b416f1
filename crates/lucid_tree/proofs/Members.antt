-- What stands in a list, and lists that stand inside others: appended, chosen by a test, and read by a filter; and lists of different items.
use Rattle.lucid_tree.proofs.Common.{◌≡◌, List, [], ◌∷◌, ◌++◌, Option, Some, None, refl, sym, ap, ◌∙◌, if◌then◌else◌, arith, ◌⊎◌, inl, inr, ℕ, zero, suc, ◌<◌, ◌≤◌, length, get_or, subst, In, Inside, AllDiffer, map, Contains, filter_map, cons_option}
use Rattle.std.proofs.Common.{Bool, true, false}
use Rattle.std.specs.Prelude.{All, slice_get}
use Rattle.std.proofs.lemmas.Option.{none-some, same_Some}

pub in_left : {A : Type 0} (x : A) (xs ys : List A) → In x xs → In x (xs ++ ys)
in_left x [] ys h = absurd h
in_left x (y ∷ xs) ys (inl e) = inl e
in_left x (y ∷ xs) ys (inr h) = inr (in_left x xs ys h)

pub in_right : {A : Type 0} (x : A) (xs ys : List A) → In x ys → In x (xs ++ ys)
in_right x [] ys h = h
in_right x (y ∷ xs) ys h = inr (in_right x xs ys h)

pub in_either : {A : Type 0} (x : A) (xs ys : List A) → In x (xs ++ ys) → In x xs ⊎ In x ys
in_either x [] ys h = inr h
in_either x (y ∷ xs) ys (inl e) = inl (inl e)
in_either x (y ∷ xs) ys (inr h) =
    elim (in_either x xs ys h) [ inl a ↦ inl (inr a) | inr b ↦ inr b ]

pub inside_itself : {A : Type 0} (xs : List A) → Inside xs xs
inside_itself xs x i = i

pub inside-append : {A : Type 0} (xs xs' ys ys' : List A) → Inside xs xs' → Inside ys ys' → Inside (xs ++ ys) (xs' ++ ys')
inside-append xs xs' ys ys' h k x i =
    elim (in_either x xs ys i) [ inl a ↦ in_left x xs' ys' (h x a) | inr b ↦ in_right x xs' ys' (k x b) ]

-- the same items in front
pub inside-after : {A : Type 0} (xs ys ys' : List A) → Inside ys ys' → Inside (xs ++ ys) (xs ++ ys')
inside-after xs ys ys' h = inside-append xs xs ys ys' (inside_itself xs) h

-- one item in front
pub inside-cons : {A : Type 0} (y : A) (ys ys' : List A) → Inside ys ys' → Inside (y ∷ ys) (y ∷ ys')
inside-cons y ys ys' h x (inl e) = inl e
inside-cons y ys ys' h x (inr i) = inr (h x i)

-- what a test shows, where the second test holds as soon as the first does
pub inside-if : {A : Type 0} (b b' : Bool) (xs ys : List A) → (b ≡ true → b' ≡ true) → Inside xs ys → Inside (if b then xs else []) (if b' then ys else [])
inside-if true b' xs ys h k x i = rw (h refl) (k x i)
inside-if false b' xs ys h k x i = absurd i

in_cons : {B : Type 0} (y : B) (o : Option B) (ys : List B) → In y (cons_option o ys) → (o ≡ Some y) ⊎ In y ys
in_cons y None ys i = inr i
in_cons y (Some z) ys (inl e) = inl (ap Some (sym e))
in_cons y (Some z) ys (inr i) = inr i

cons_here : {B : Type 0} (y : B) (o : Option B) (ys : List B) → o ≡ Some y → In y (cons_option o ys)
cons_here y None ys e = absurd (grind arith)
cons_here y (Some z) ys e = inl (cc)

cons_there : {B : Type 0} (y : B) (o : Option B) (ys : List B) → In y ys → In y (cons_option o ys)
cons_there y None ys i = i
cons_there y (Some z) ys i = inr i

-- what an item is read as stands among what the list is read as
pub in_read : {A B : Type 0} (f : A → Option B) (x : A) (y : B) (ys : List A) → f x ≡ Some y → In x ys → In y (filter_map f ys)
in_read f x y [] e i = absurd i
in_read f x y (z ∷ ys) e (inl h) = cons_here y (f z) (filter_map f ys) (ap f (sym h) ∙ e)
in_read f x y (z ∷ ys) e (inr i) = cons_there y (f z) (filter_map f ys) (in_read f x y ys e i)

pub inside-read : {A B : Type 0} (f : A → Option B) (xs ys : List A) → Inside xs ys → Inside (filter_map f xs) (filter_map f ys)
inside-read f [] ys h y i = absurd i
inside-read f (x ∷ xs) ys h y i =
    elim (in_cons y (f x) (filter_map f xs) i) [
      | inl e ↦ in_read f x y ys e (h x (inl refl))
      | inr j ↦ inside-read f xs ys (λ z k. h z (inr k)) y j
    ]

module _ {A B : Type 0} (f : A → B) where
  pub in_map : (x : A) (xs : List A) → In x xs → In (f x) (map f xs)
  in_map x [] h = h
  in_map x (y ∷ ys) (inl e) = inl (ap f e)
  in_map x (y ∷ ys) (inr h) = inr (in_map x ys h)

-- what stands in a list stands at some number, and what stands at a number stands in it
pub number_in : {A : Type 0} (x d : A) (xs : List A) → In x xs → (i : ℕ) × (i < length xs) × (get_or xs i d ≡ x)
number_in x d [] h = absurd h
number_in x d (y ∷ xs) (inl same) = (0, omega arith, sym same)
number_in x d (y ∷ xs) (inr later) = let k = number_in x d xs later in (suc k.0, omega (arith, k.1), k.2)

pub contained : {A : Type 0} (x : A) (xs : List A) → In x xs → Contains xs x
contained x xs i = let k = number_in x x xs i in (k.0, k.1, k.2)

pub stands_at : {A : Type 0} (x : A) (xs : List A) (i : ℕ) → i < length xs → get_or xs i x ≡ x → In x xs
stands_at x [] i within is = absurd (omega (arith, within))
stands_at x (y ∷ xs) zero within is = inl (sym is)
stands_at x (y ∷ xs) (suc i) within is = inr (stands_at x xs i (omega (arith, within)) is)

-- what holds of all items holds of each that stands there
pub in_all : {A : Type 0} (P : A → Type 0) (xs : List A) (x : A) → All P xs → In x xs → P x
in_all P [] x all i = absurd i
in_all P (y ∷ xs) x all (inl e) = subst P (sym e) (all 0 y (omega arith))
in_all P (y ∷ xs) x all (inr i) = in_all P xs x (λ k d lt. all (suc k) d (omega (arith, lt))) i

-- what is found at a number stands there
pub found_in : {A : Type 0} (xs : List A) (k : ℕ) (x : A) → slice_get xs k ≡ Some x → In x xs
found_in [] k x e = absurd (none-some _ e)
found_in (y ∷ xs) zero x e = inl (same_Some _ _ (sym e))
found_in (y ∷ xs) (suc k) x e = inr (found_in xs k x e)

pub differ_right : {A : Type 0} (xs ys : List A) → AllDiffer (xs ++ ys) → AllDiffer ys
differ_right [] ys all = all
differ_right (x ∷ xs) ys all = differ_right xs ys all.1

-- lists of different items that share none
pub differ_both : {A : Type 0} (xs ys : List A) → AllDiffer xs → AllDiffer ys → ((x : A) → In x xs → In x ys → ⊥) → AllDiffer (xs ++ ys)
differ_both [] ys one two apart = two
differ_both (x ∷ xs) ys one two apart = (
  λ i. elim (in_either x xs ys i) [ inl j ↦ one.0 j | inr j ↦ apart x (inl refl) j ],
  differ_both xs ys one.1 two (λ y i j. apart y (inr i) j),
)

-- another item behind different ones
pub one_more-differs : {A : Type 0} (x : A) (xs : List A) → (In x xs → ⊥) → AllDiffer xs → AllDiffer (xs ++ x ∷ [])
one_more-differs x [] h d = ((λ q. q), tt)
one_more-differs x (y ∷ xs) h d = (
  (λ q. elim (in_either y xs (x ∷ []) q) [ inl r ↦ d.0 r | inr r ↦ elim r [ inl e ↦ h (inl (sym e)) | inr z ↦ z ] ]),
  one_more-differs x xs (λ q. h (inr q))
      d.1,
)

module _ {A : Type 0} where
  -- the list without the item, which it has
  without : (v : A) (us : List A) → In v us → List A
  without v [] i = []
  without v (u ∷ us) (inl e) = us
  without v (u ∷ us) (inr i) = u ∷ without v us i

  length-without : (v : A) (us : List A) (i : In v us) → suc (length (without v us i)) ≡ length us
  unfolding without
  length-without v [] i = absurd i
  length-without v (u ∷ us) (inl e) = refl
  length-without v (u ∷ us) (inr i) = ap suc (length-without v us i)

  in-without : (v : A) (us : List A) (i : In v us) (x : A) → (x ≡ v → ⊥) → In x us → In x (without v us i)
  unfolding without
  in-without v [] i x d j = absurd j
  in-without v (u ∷ us) (inl e) x d (inl e') = absurd (d (e' ∙ sym e))
  in-without v (u ∷ us) (inl e) x d (inr j) = j
  in-without v (u ∷ us) (inr i) x d (inl e) = inl e
  in-without v (u ∷ us) (inr i) x d (inr j) = inr (in-without v us i x d j)

  -- a list of different items that all stand in another is no longer
  pub fewer : (vs us : List A) → AllDiffer vs → Inside vs us → length vs ≤ length us
  fewer [] us r h = omega arith
  fewer (v ∷ vs) us r h =
      let i : In v us = h v (inl refl) in
      omega (arith, length-without v us i, fewer vs (without v us i) r.1 (λ x j. in-without v us i x (λ e. r.0 (subst (λ z. In z vs) e j)) (h x (inr j))))
