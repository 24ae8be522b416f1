-- Readers that have a few values: what a row is shown to look at.
use Rattle.lucid_fixed_point.proofs.Common.{◌≡◌, ℕ, ◌<◌, Bool, true, false, Option, Some, None, nat_eq, ◌&&◌, refl, sym, ◌∙◌, subst, arith, nat_tests, PlainValue, Reader, Keeps, Streams}

-- a reader with one more value
pub at_point : (i u r j y z : ℕ) → Bool
at_point i u r j y z = nat_eq j i && nat_eq y u && nat_eq z r

put_or : Bool → PlainValue → Option PlainValue → Option PlainValue
put_or true w o = Some w
put_or false w o = o

pub put : (i u r : ℕ) → PlainValue → Reader (Option PlainValue) → Reader (Option PlainValue)
unfolding at_point put_or
put i u r w p j y z = put_or (at_point i u r j y z) w (p j y z)

at-itself : (i u r : ℕ) → at_point i u r i u r ≡ true
unfolding at_point
at-itself i u r = grind (arith, nat_tests)

pub put-is : (i u r : ℕ) (w : PlainValue) (p : Reader (Option PlainValue)) → put i u r w p i u r ≡ Some w
unfolding put put_or
put-is i u r w p = subst (λ c. put_or c w (p i u r) ≡ Some w) (sym (at-itself i u r)) refl

point-is : (i u r j y z : ℕ) → at_point i u r j y z ≡ true → (j ≡ i) × (y ≡ u) × (z ≡ r)
unfolding at_point
point-is i u r j y z e = (grind (arith, nat_tests, e), grind (arith, nat_tests, e), grind (arith, nat_tests, e))

put_or-has : (c : Bool) (w x : PlainValue) (o : Option PlainValue) (P : PlainValue → Type 0) → (c ≡ true → P w) → (o ≡ Some x → P x) → put_or c w o ≡ Some x → P x
unfolding put_or
put_or-has true w x o P h k e = let same : w ≡ x = grind (arith, e) in subst P same (h refl)
put_or-has false w x o P h k e = k e

pub put-reads : (a : Streams) (i u r : ℕ) (w : PlainValue) (p : Reader (Option PlainValue)) → a i u r w
    → ((j y z : ℕ) (x : PlainValue) → p j y z ≡ Some x → a j y z x) → (j y z : ℕ) (x : PlainValue) → put i u r w p j y z ≡ Some x → a j y z x
unfolding put
put-reads a i u r w p h k j y z x e =
    put_or-has (at_point i u r j y z) w x (p j y z) (λ v. a j y z v)
    (λ c. let q = point-is i u r j y z c in
    subst (λ m. a m y z w) (sym q.0) (subst (λ m. a i m z w) (sym q.1) (subst (λ m. a i u m w) (sym q.2) h))) (k j y z x) e

put_or-keeps : (c : Bool) (w : PlainValue) (o : Option PlainValue) → (c ≡ true → o ≡ None) → Keeps o (put_or c w o)
unfolding put_or
put_or-keeps true w o h x e = let off : None ≡ Some x = sym (h refl) ∙ e in absurd (grind arith)
put_or-keeps false w o h x e = e

pub put-keeps : (i u r : ℕ) (w : PlainValue) (p : Reader (Option PlainValue)) → p i u r ≡ None → (j y z : ℕ) → Keeps (p j y z) (put i u r w p j y z)
unfolding put
put-keeps i u r w p h j y z =
    put_or-keeps (at_point i u r j y z) w (p j y z)
    (λ c. let q = point-is i u r j y z c in
    subst (λ m. p m y z ≡ None) (sym q.0) (subst (λ m. p i m z ≡ None) (sym q.1) (subst (λ m. p i u m ≡ None) (sym q.2) h)))

pub put-fresh : (i u r : ℕ) (w : PlainValue) (p : Reader (Option PlainValue)) (j y z : ℕ) → at_point i u r j y z ≡ false → p j y z ≡ None
    → put i u r w p j y z ≡ None
unfolding put put_or
put-fresh i u r w p j y z c h = subst (λ d. put_or d w (p j y z) ≡ None) (sym c) h

pub other-time : (i u r y z : ℕ) → y < u → at_point i u r i y z ≡ false
unfolding at_point
other-time i u r y z h = grind (arith, nat_tests, h)

pub earlier-part : (i u r j y z : ℕ) → j < i → at_point i u r j y z ≡ false
unfolding at_point
earlier-part i u r j y z h = grind (arith, nat_tests, h)

pub other-parts : (i u r j y z : ℕ) → nat_eq i j ≡ false → at_point i u r j y z ≡ false
unfolding at_point
other-parts i u r j y z h = grind (arith, nat_tests, h)

pub no_values : Reader (Option PlainValue)
no_values j y z = None

pub no-values : (j y z : ℕ) → no_values j y z ≡ None
unfolding no_values
no-values j y z = refl

pub no-values-read : (a : Streams) (j y z : ℕ) (x : PlainValue) → no_values j y z ≡ Some x → a j y z x
no-values-read a j y z x e = let off : None ≡ Some x = sym (no-values j y z) ∙ e in absurd (grind arith)
