-- Parts of lists.
use Rattle.lucid_cycles.proofs.Common.{◌≡◌, ◌<◌, ℕ, zero, suc, List, [], ◌∷◌, ◌++◌, length, get_or, map, refl, sym, subst, inl, inr, arith, All, In, All-nil, All-cons, All-head, All-tail}
pub use Rattle.lucid_cycles.specs.Readers.{all-left, all-right}

pub nil-left : {X : Type 0} (xs ys : List X) → xs ++ ys ≡ [] → xs ≡ []
nil-left [] ys e = refl
nil-left (x ∷ xs) ys e = cc

pub nil-right : {X : Type 0} (xs ys : List X) → xs ++ ys ≡ [] → ys ≡ []
nil-right [] ys e = e
nil-right (x ∷ xs) ys e = cc

pub all-unmap : {X Y : Type 0} (P : X → Type 0) (f : Y → X) (ys : List Y) → All P (map f ys) → All (λ y. P (f y)) ys
all-unmap P f [] h = All-nil (λ y. P (f y))
all-unmap P f (y ∷ ys) h = All-cons (λ x. P (f x)) y ys (All-head P (f y) (map f ys) h) (all-unmap P f ys (All-tail P (f y) (map f ys) h))

pub all-both : {X : Type 0} (P Q R : X → Type 0) → ((x : X) → P x → Q x → R x) → (xs : List X) → All P xs → All Q xs → All R xs
all-both P Q R f [] h g = All-nil R
all-both P Q R f (x ∷ xs) h g = All-cons R x xs (f x (All-head P x xs h) (All-head Q x xs g)) (all-both P Q R f xs (All-tail P x xs h) (All-tail Q x xs g))

pub all-in : {X : Type 0} (P : X → Type 0) (x : X) (xs : List X) → In x xs → All P xs → P x
all-in P x [] i h = absurd i
all-in P x (y ∷ ys) (inl e) h = subst P (sym e) (All-head P y ys h)
all-in P x (y ∷ ys) (inr i) h = all-in P x ys i (All-tail P y ys h)

pub in-at : {X : Type 0} (xs : List X) (i : ℕ) (x : X) → i < length xs → x ≡ get_or xs i x → In x xs
in-at [] i x h e = absurd (omega (arith, h))
in-at (y ∷ xs) zero x h e = inl e
in-at (y ∷ xs) (suc i) x h e = inr (in-at xs i x (omega (arith, h)) e)

pub none-in : (x : ℕ) (xs : List ℕ) → ((k : ℕ) → k < length xs → get_or xs k 0 ≡ x → ⊥) → In x xs → ⊥
none-in x [] f i = i
none-in x (y ∷ ys) f (inl e) = f 0 (omega arith) (sym e)
none-in x (y ∷ ys) f (inr i) = none-in x ys (λ k h e. f (suc k) (omega (arith, h)) e) i
