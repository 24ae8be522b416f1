-- Options and results: when two are the same, and what there is in one.
use Rattle.std.proofs.Common.{◌≡◌, Bool, true, false, cond, Option, Some, None, IsSome, Result, Ok, Err, OnErr, refl, sym}

-- options are the same where each has the values of the other
pub same_values : {A : Type 0} (o p : Option A) → ((v : A) → o ≡ Some v → p ≡ Some v) → ((v : A) → p ≡ Some v → o ≡ Some v) → o ≡ p
same_values None None f g = refl
same_values None (Some y) f g = g y refl
same_values (Some x) p f g = sym (f x refl)

-- what is in an option
pub value_there : {A : Type 0} (o : Option A) → IsSome o → (x : A) × (o ≡ Some x)
value_there None h = absurd (cc)
value_there (Some x) h = (x, refl)

-- with another value before it there still is one
pub some_still : {A : Type 0} (t : Bool) (x : A) (o : Option A) → IsSome o → IsSome (cond t (Some x) o)
some_still true x o h = refl
some_still false x o h = h

-- what holds anyway holds on an error
pub on_err : {T E P : Type 0} (r : Result T E) → P → OnErr r P
on_err (Ok x) p = tt
on_err (Err e) p = p
