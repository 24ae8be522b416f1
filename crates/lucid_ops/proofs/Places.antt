-- Numbers that have a place among those of 128 bits.
use Rattle.lucid_ops.proofs.Common.{◌≡◌, ℕ, zero, suc, ◌^◌, ◌<◌, true, false, refl, arith, nat_lt, nat_eq, ℤ, pos, negsuc, neg_ℤ, unsigned_abs, int_div, int_rem, FitsSigned, w128, int_pow, nat_tests, PlainValue, int, fault, integer, unless_zero, row_of_two, Pow, ints, ◌≤ℤ◌, Option, None, SomeIff, option_map_or, CanDivide}
use Rattle.std.proofs.Common.{if◌then◌else◌}
use Rattle.std.specs.Prelude.{Some}
use lib.Signed.{mag_rem}

within : (n : ℕ) (v : PlainValue) → n < 2 ^ 127 → (if nat_lt n (2 ^ 127) then v else fault) ≡ v
within n v h = let e : nat_lt n (2 ^ 127) ≡ true = grind (arith, nat_tests) in rw e refl

past : (n : ℕ) (v : PlainValue) → ¬ (n < 2 ^ 127) → (if nat_lt n (2 ^ 127) then v else fault) ≡ fault
past n v h = let e : nat_lt n (2 ^ 127) ≡ false = grind (arith, nat_tests) in rw e refl

-- what fits has its place
pub integer_within : (z : ℤ) → FitsSigned w128 z → integer z ≡ int z
integer_within (pos n) h = within n (int (pos n)) h.sfits
integer_within (negsuc n) h = within n (int (negsuc n)) h.sfits

-- what does not fit has none
pub integer_past : (z : ℤ) → ¬ FitsSigned w128 z → integer z ≡ fault
integer_past (pos n) h = past n (int (pos n)) (λ l. h (record { sfits = l }))
integer_past (negsuc n) h = past n (int (negsuc n)) (λ l. h (record { sfits = l }))

-- a checked operation gives the integer, or nothing where that has no place
pub integer_checked : (r : Option ℤ) (z : ℤ) → SomeIff r (FitsSigned w128 z) z → option_map_or int r fault ≡ integer z
integer_checked None z h = rw (integer_past z h) refl
integer_checked (Some x) z h = rw (integer_within z h.0, h.1) refl

-- a divisor that is not 0
nonzero : (n : ℕ) (v : PlainValue) → unless_zero (pos (suc n)) v ≡ v
nonzero n v = let e : nat_eq (suc n) 0 ≡ false = grind (arith, nat_tests) in rw e refl

-- a quotient is there where the divisor is not 0 and it has a place
pub quotient_checked : (r : Option ℤ) (a b : ℤ) → FitsSigned w128 b → SomeIff r (CanDivide w128 a b) (int_div a b)
    → option_map_or int r fault ≡ unless_zero b (integer (int_div a b))
quotient_checked None a (pos zero) f h = refl
quotient_checked (Some x) a (pos zero) f h = absurd (omega (arith, h.0.0))
quotient_checked None a (pos (suc n)) f h = rw (nonzero n, integer_past (int_div a (pos (suc n))) (λ k. h (omega arith, k))) refl
quotient_checked (Some x) a (pos (suc n)) f h = rw (nonzero n, integer_within (int_div a (pos (suc n))) h.0.1, h.1) refl
quotient_checked None a (negsuc n) f h = rw (integer_past (int_div a (negsuc n)) (λ k. h (omega (arith, f.sfits), k))) refl
quotient_checked (Some x) a (negsuc n) f h = rw (integer_within (int_div a (negsuc n)) h.0.1, h.1) refl

-- a remainder has its place
pub remainder_fits : (a b : ℤ) → FitsSigned w128 a → 0 < unsigned_abs b → int (int_rem a b) ≡ unless_zero b (integer (int_rem a b))
remainder_fits a (pos zero) f h = absurd (omega arith)
remainder_fits a (pos (suc n)) f h = rw (
  nonzero n,
  integer_within (int_rem a (pos (suc n)))
      (record { sfits = omega (arith, f.sfits, mag_rem a (pos (suc n))) }),
) refl
remainder_fits a (negsuc n) f h = rw (integer_within (int_rem a (negsuc n)) (record { sfits = omega (arith, f.sfits, mag_rem a (negsuc n)) })) refl

-- a power is there where it has a place
pub power_checked : (r : Option ℤ) (a e : ℤ) → pos 0 ≤ℤ e → SomeIff r (FitsSigned w128 (int_pow a (unsigned_abs e))) (int_pow a (unsigned_abs e))
    → option_map_or int r fault ≡ row_of_two integer Pow (int a) (int e)
power_checked r a (pos n) p h = integer_checked r (int_pow a n) h
power_checked r a (negsuc n) p h = absurd (omega (arith, ints))

-- the size of an integer has its place where the integer's opposite has
pub size_checked : (r : Option ℤ) (z : ℤ) → FitsSigned w128 z → SomeIff r (FitsSigned w128 (neg_ℤ z)) (pos (unsigned_abs z))
    → option_map_or int r fault ≡ integer (pos (unsigned_abs z))
size_checked r (pos zero) f h = integer_checked r (pos 0) h
size_checked None (pos (suc n)) f h = absurd (h (record { sfits = omega (arith, f.sfits) }))
size_checked (Some x) (pos (suc n)) f h = rw (integer_within (pos (suc n)) f, h.1) refl
size_checked r (negsuc n) f h = integer_checked r (pos (suc n)) h

-- a count below 2 ^ 64
pub count_placed : (n : ℕ) → n < 2 ^ 64 → int (pos n) ≡ integer (pos n)
count_placed n h = rw (integer_within (pos n) (record { sfits = omega arith })) refl
