-- How many actuals a call into a scope wants, by its parameters.
use Rattle.lucid_flat.proofs.SoundCommon.{◌≡◌, ℕ, zero, suc, ◌+◌, ◌<◌, ◌≤◌, Some, List, [], ◌∷◌, slice_get, refl, ◌∙◌, ap, arith, none-some, same_Some, eq-eqb, eqb-true, Entry, Parameter, NameRow, wanted, Bool, true, ◌==◌}
use Rattle.lucid_flat.specs.Wants.{asked_here, asked}

abbrev parameter_of : (scope index : ℕ) → NameRow
parameter_of s i = record { scope = s; kind = Parameter i }

-- a parameter of the scope asks for one more than its index
asked-parameter : (s i : ℕ) → asked s (parameter_of s i) ≡ suc i
asked-parameter s i = ap (λ b. asked_here b (Parameter i)) (eq-eqb s s refl)

-- another name of it asks for nothing
asked-low : (s p k : ℕ) (b : Bool) (e : Entry) → (p == s) ≡ b → ((i : ℕ) → ◌≡◌ {A = NameRow} (record { scope = p; kind = e }) (parameter_of s i) → i < k)
    → asked_here b e ≤ k
asked-low s p k true (Parameter i) same h = let low = h i (ap (λ x. parameter_of x i) (eqb-true p s same)) in omega (arith, low)
asked-low s p k b e same h = omega arith

-- as many as a call wants are more than the index of each parameter
pub wanted-enough : (rs : List NameRow) (s k : ℕ) → wanted rs s ≤ k → (n i : ℕ) → slice_get rs n ≡ Some (parameter_of s i) → i < k
wanted-enough [] s k h n i at = absurd (none-some _ at)
wanted-enough (r ∷ rs) s k h zero i at = let e = ap (asked s) (same_Some r (parameter_of s i) at) ∙ asked-parameter s i in omega (arith, e, h)
wanted-enough (r ∷ rs) s k h (suc n) i at = wanted-enough rs s k (omega (arith, h)) n i at

-- and no fewer are
pub enough-wanted : (rs : List NameRow) (s k : ℕ) → ((n i : ℕ) → slice_get rs n ≡ Some (parameter_of s i) → i < k) → wanted rs s ≤ k
enough-wanted [] s k h = omega arith
enough-wanted (r ∷ rs) s k h =
    let here = asked-low s r.scope k (r.scope == s) r.kind refl (λ i e. h 0 i (ap Some e)) in
    let rest = enough-wanted rs s k (λ n i at. h (suc n) i at) in
    omega (arith, here, rest)
