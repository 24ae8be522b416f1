-- Powers at exponents of 128 and more.
use Rattle.lucid_ops.proofs.Common.{◌≡◌, ℕ, zero, suc, ◌^◌, ◌%◌, ◌≤◌, ◌<◌, Bool, true, false, cond, refl, ◌∙◌, arith, ℤ, pos, negsuc, neg_ℤ, FitsSigned, w128, int_pow, nat_tests, ◌==◌, pow-suc, pow-le-pow_left, pow-le-pow_right}

one_power : (n : ℕ) → 1 ^ n ≡ 1
one_power zero = refl
one_power (suc n) = pow-suc 1 n ∙ omega (arith, one_power n)

zero_power : (n : ℕ) → 0 < n → 0 ^ n ≡ 0
zero_power zero h = absurd (omega arith)
zero_power (suc n) h = pow-suc 0 n ∙ omega arith

great_power : (a n : ℕ) → 2 ≤ a → 128 ≤ n → 340282366920938463463374607431768211456 ≤ a ^ n
great_power a n h k =
    let two : 2 ^ 128 ≤ 2 ^ n = pow-le-pow_right {n = 2} (omega arith) k in
    let all : 2 ^ n ≤ a ^ n = pow-le-pow_left h n in
    omega (arith, two, all)

negated_past : (m : ℕ) → 340282366920938463463374607431768211456 ≤ m → ¬ FitsSigned w128 (neg_ℤ (pos m))
negated_past zero h f = omega arith
negated_past (suc m) h f = omega (arith, f.sfits)

signed_past : (t : Bool) (m : ℕ) → 340282366920938463463374607431768211456 ≤ m → ¬ FitsSigned w128 (cond t (pos m) (neg_ℤ (pos m)))
signed_past true m h f = omega (arith, f.sfits)
signed_past false m h f = negated_past m h f

fits_small : (n : ℕ) → n < 2 → FitsSigned w128 (pos n)
fits_small n h = record { sfits = omega arith }

pub power_of_zero : (b : ℤ) (n : ℕ) → b ≡ pos 0 → 128 ≤ n → FitsSigned w128 (int_pow b n) × (pos 0 ≡ int_pow b n)
power_of_zero b n e h = rw (e, zero_power n (omega arith)) (fits_small 0 (omega arith), refl)

pub power_of_one : (b : ℤ) (n : ℕ) → b ≡ pos 1 → FitsSigned w128 (int_pow b n) × (pos 1 ≡ int_pow b n)
power_of_one b n e = rw (e, one_power n) (fits_small 1 (omega arith), refl)

pub even_power : (b : ℤ) (n : ℕ) → b ≡ negsuc 0 → n % 2 ≡ 0 → FitsSigned w128 (int_pow b n) × (pos 1 ≡ int_pow b n)
even_power b n e h = let even : (n % 2 == 0) ≡ true = grind (arith, nat_tests) in rw (e, even, one_power n) (fits_small 1 (omega arith), refl)

pub odd_power : (b : ℤ) (n : ℕ) → b ≡ negsuc 0 → (n % 2 ≡ 0 → ⊥) → FitsSigned w128 (int_pow b n) × (negsuc 0 ≡ int_pow b n)
odd_power b n e h = let odd : (n % 2 == 0) ≡ false = grind (arith, nat_tests) in rw (e, odd, one_power n) (record { sfits = omega arith }, refl)

-- no power of another base has 128 bits
pub power_past : (b : ℤ) (n : ℕ) → 128 ≤ n → (b ≡ pos 0 → ⊥) → (b ≡ pos 1 → ⊥) → (b ≡ negsuc 0 → ⊥) → ¬ FitsSigned w128 (int_pow b n)
power_past (pos zero) n h p q r f = p refl
power_past (pos (suc zero)) n h p q r f = q refl
power_past (pos (suc (suc a))) n h p q r f = omega (arith, f.sfits, great_power (suc (suc a)) n (omega arith) h)
power_past (negsuc zero) n h p q r f = r refl
power_past (negsuc (suc a)) n h p q r f = signed_past (n % 2 == 0) _ (great_power (suc (suc a)) n (omega arith) h) f
