-- Tests on numbers, and the cases of an order.
use Rattle.std.proofs.Common.{◌≡◌, ℕ, ◌+◌, ◌<◌, true, false, ◌==◌, nat_le, ◌⊎◌, inl, inr, arith}
use Rattle.std.proofs.lemmas.Bool.{cases_lt}
use Rattle.std.proofs.lemmas.Bool.Decides.{nat_tests}

pub number_itself : (a : ℕ) → (a == a) ≡ true
number_itself a = grind (arith, nat_tests)

pub below_differs : (a b : ℕ) → a < b → (a == b) ≡ false
below_differs a b h = grind (arith, nat_tests)

pub above_differs : (a b : ℕ) → b < a → (a == b) ≡ false
above_differs a b h = grind (arith, nat_tests)

pub equality_turned : (a b : ℕ) → (a == b) ≡ (b == a)
equality_turned a b = grind (arith, nat_tests)

pub zero_le : (n : ℕ) → nat_le 0 n ≡ true
zero_le n = grind (arith, nat_tests)

-- a number below the next one is below this one, or it is this one
pub below_or_last : (k i : ℕ) → k < i + 1 → (k < i) ⊎ (k ≡ i)
below_or_last k i h = elim (cases_lt k i) [ inl below ↦ inl below | inr above ↦ inr (omega (arith, h, above)) ]
