-- The signs of integers.
use Rattle.std.proofs.Common.{◌≡◌, ◌≢◌, zero, suc, true, false, refl, arith}
use Rattle.std.specs.Prelude.{ℤ, pos, negsuc, ◌<ℤ◌, ◌≤ℤ◌}
use Rattle.std.proofs.lemmas.Bool.Decides.{nat_tests}
use Rattle.std.proofs.lemmas.Int.{ints}
use Rattle.lucid_value.specs.Plain.{int}
use Rattle.lucid_explain_errors.specs.Causes.{is_zero, is_below_zero}

pub zero_is : (z : ℤ) → z ≡ pos 0 → is_zero (int z) ≡ true
zero_is z e = rw e refl

pub not_zero : (z : ℤ) → z ≢ pos 0 → is_zero (int z) ≡ false
not_zero (pos zero) ne = absurd (ne refl)
not_zero (pos (suc n)) ne = grind (arith, nat_tests)
not_zero (negsuc n) ne = refl

pub below_zero : (z : ℤ) → z <ℤ pos 0 → is_below_zero (int z) ≡ true
below_zero (pos n) h = absurd (omega (arith, ints))
below_zero (negsuc n) h = refl

pub not_below_zero : (z : ℤ) → pos 0 ≤ℤ z → is_below_zero (int z) ≡ false
not_below_zero (pos n) h = refl
not_below_zero (negsuc n) h = absurd (omega (arith, ints))
