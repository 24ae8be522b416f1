-- The elements of a list after a write and after a push, and lists with ends.
use Rattle.std.proofs.Common.{◌≡◌, ◌≢◌, ℕ, zero, suc, ◌<◌, List, [], ◌∷◌, ◌++◌, length, drop, Some, option_map, refl, sym, ap, ◌∙◌, arith, slice_set}
use Rattle.std.specs.List.{slice_get}
use Rattle.std.proofs.lemmas.Option.{none-some}
use Rattle.std.proofs.lemmas.List.{same_from_push}

pub slice_get-set_same : {A : Type 0} (xs : List A) (i : ℕ) (v : A) → i < length xs → slice_get (slice_set xs i v) i ≡ Some v
slice_get-set_same [] i v within = absurd (omega arith)
slice_get-set_same (x ∷ xs) zero v within = refl
slice_get-set_same (x ∷ xs) (suc i) v within = slice_get-set_same xs i v (omega arith)

pub slice_get-set_other : {A : Type 0} (xs : List A) (i j : ℕ) (v : A) → j ≢ i → slice_get (slice_set xs i v) j ≡ slice_get xs j
slice_get-set_other [] i j v other = refl
slice_get-set_other (x ∷ xs) zero zero v other = absurd (other refl)
slice_get-set_other (x ∷ xs) zero (suc j) v other = refl
slice_get-set_other (x ∷ xs) (suc i) zero v other = refl
slice_get-set_other (x ∷ xs) (suc i) (suc j) v other = slice_get-set_other xs i j v (λ e. other (ap suc e))

pub slice_get-push_same : {A : Type 0} (xs : List A) (v : A) → slice_get (xs ++ v ∷ []) (length xs) ≡ Some v
slice_get-push_same [] v = refl
slice_get-push_same (x ∷ xs) v = slice_get-push_same xs v

pub slice_get-push_other : {A : Type 0} (xs : List A) (v : A) (k : ℕ) → k ≢ length xs → slice_get (xs ++ v ∷ []) k ≡ slice_get xs k
slice_get-push_other [] v zero other = absurd (other refl)
slice_get-push_other [] v (suc k) other = refl
slice_get-push_other (x ∷ xs) v zero other = refl
slice_get-push_other (x ∷ xs) v (suc k) other = slice_get-push_other xs v k (λ e. other (ap suc e))

pub slice_get-append_left : {A : Type 0} (xs ys : List A) (i : ℕ) (x : A) → slice_get xs i ≡ Some x → slice_get (xs ++ ys) i ≡ Some x
slice_get-append_left [] ys i x e = absurd (none-some x e)
slice_get-append_left (y ∷ xs) ys zero x e = e
slice_get-append_left (y ∷ xs) ys (suc i) x e = slice_get-append_left xs ys i x e

-- a write of a value that f can't tell from the one that stood there
pub map-set_same : {A B : Type 0} (f : A → B) (xs : List A) (i k : ℕ) (v old : A) → slice_get xs i ≡ Some old → f v ≡ f old
    → option_map f (slice_get (slice_set xs i v) k) ≡ option_map f (slice_get xs k)
map-set_same f [] i k v old was same = refl
map-set_same f (x ∷ xs) zero zero v old was same = ap Some same ∙ ap (option_map f) (sym was)
map-set_same f (x ∷ xs) zero (suc k) v old was same = refl
map-set_same f (x ∷ xs) (suc i) zero v old was same = refl
map-set_same f (x ∷ xs) (suc i) (suc k) v old was same = map-set_same f xs i k v old was same

-- where a list hasn't ended, something is left
pub some_left : {A : Type 0} (xs : List A) (k : ℕ) → k < length xs → drop k xs ≢ []
some_left [] k h e = omega (arith, h)
some_left (x ∷ xs) zero h e = cc
some_left (x ∷ xs) (suc k) h e = some_left xs k (omega (arith, h)) e

-- what stands between the same ends is the same
pub same_between : {A : Type 0} (xs ys : List A) (a b : A) → a ∷ (xs ++ b ∷ []) ≡ a ∷ (ys ++ b ∷ []) → xs ≡ ys
same_between xs ys a b e = (same_from_push xs ys b b (ap (drop 1) e)).0
