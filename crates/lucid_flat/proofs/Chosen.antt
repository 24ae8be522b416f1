-- Lemmas on choices by words, and on what a step of reading gave.
use Rattle.lucid_flat.proofs.Common.{◌≡◌, ℕ, Bool, true, false, cond, List, [], ◌∷◌, Option, Some, ◌⊎◌, inl, inr, refl, sym, ap, ◌∙◌, subst, AllByRecursion, find, bytes_eq, same_Some, bytes_eq-Decides}

-- what a test chose
pub by_test : {A : Type 0} (b : Bool) (x y z : A) → cond b x y ≡ z → ((b ≡ true) × (x ≡ z)) ⊎ ((b ≡ false) × (y ≡ z))
by_test true x y z e = inl (refl, e)
by_test false x y z e = inr (refl, e)

with_word : {A : Type 0} (w c : List ℕ) (x y z : A) → ((bytes_eq w c ≡ true) × (x ≡ z)) ⊎ ((bytes_eq w c ≡ false) × (y ≡ z)) → ((w ≡ c) × (x ≡ z)) ⊎ (y ≡ z)
with_word w c x y z (inl h) = inl ((bytes_eq-Decides w c).0 h.0, h.1)
with_word w c x y z (inr h) = inr h.1

-- what was chosen by a word
pub by_word : {A : Type 0} (w c : List ℕ) (x y z : A) → cond (bytes_eq w c) x y ≡ z → ((w ≡ c) × (x ≡ z)) ⊎ (y ≡ z)
by_word w c x y z e = with_word w c x y z (by_test (bytes_eq w c) x y z e)

found_by : {A : Type 0} (p : A → Bool) (x y : A) (o : Option A) (b : Bool) → p x ≡ b → cond b (Some x) o ≡ Some y → (o ≡ Some y → p y ≡ true) → p y ≡ true
found_by p x y o true h e k =
    let s : x ≡ y = cc in ap p (sym s) ∙ h
found_by p x y o false h e k = k e

-- what is found passes the test
pub found : {A : Type 0} (p : A → Bool) (xs : List A) (y : A) → find p xs ≡ Some y → p y ≡ true
found p [] y e = absurd (cc)
found p (x ∷ xs) y e = found_by p x y (find p xs) (p x) refl e (found p xs y)

-- and has what all have
among_by : {A : Type 0} (P : A → Type 0) (x y : A) (o : Option A) (b : Bool) → cond b (Some x) o ≡ Some y → P x → (o ≡ Some y → P y) → P y
among_by P x y o true e h k = subst P (same_Some x y e) h
among_by P x y o false e h k = k e

pub found_among : {A : Type 0} (P : A → Type 0) (p : A → Bool) (xs : List A) (y : A) → AllByRecursion P xs → find p xs ≡ Some y → P y
found_among P p [] y h e = absurd (cc)
found_among P p (x ∷ xs) y h e = among_by P x y (find p xs) (p x) e h.0 (found_among P p xs y h.1)
