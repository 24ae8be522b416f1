-- Numbers that wait behind others.
use Rattle.lucid_compile.proofs.Common.{◌≡◌, ℕ, ◌≤◌, List, [], ◌∷◌, ◌++◌, length, take, drop, sym, ap, ◌∙◌, arith, append_assoc, length-append, drop-append-le, take-append-le, drop-append_seam, take-append_seam}
use Rattle.std.proofs.Common.{append-nil}

-- at first there are those before alone
pub none-waits : (xs : List ℕ) (n : ℕ) → n ≡ length xs → drop n xs ≡ []
none-waits xs n e = ap (λ k. drop k xs) e ∙ ap (drop (length xs)) (sym (append-nil xs)) ∙ drop-append_seam xs []

pub all-before : (xs : List ℕ) (n : ℕ) → n ≡ length xs → take n xs ≡ xs
all-before xs n e = ap (λ k. take k xs) e ∙ ap (take (length xs)) (sym (append-nil xs)) ∙ take-append_seam xs []

-- and then one more behind
pub one-waits : (xs ys more : List ℕ) (n x : ℕ) → n ≤ length xs → ys ≡ xs ++ x ∷ [] → drop n xs ++ x ∷ more ≡ drop n ys ++ more
one-waits xs ys more n x h e = sym (ap (λ l. drop n l ++ more) e ∙ ap (λ l. l ++ more) (drop-append-le n xs (x ∷ []) h)
    ∙ append_assoc (drop n xs) (x ∷ []) more)

pub before-kept : (xs ys zs : List ℕ) (n x : ℕ) → n ≤ length xs → ys ≡ xs ++ x ∷ [] → take n xs ≡ zs → take n ys ≡ zs
before-kept xs ys zs n x h e b = ap (take n) e ∙ take-append-le n xs (x ∷ []) h ∙ b

pub still-within : (xs ys : List ℕ) (n x : ℕ) → n ≤ length xs → ys ≡ xs ++ x ∷ [] → n ≤ length ys
still-within xs ys n x h e = omega (arith, ap length e, length-append xs (x ∷ []))
