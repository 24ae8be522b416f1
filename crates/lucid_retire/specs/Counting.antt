-- Turns that are counted down to the next sweep, and the number of keys that are left, give the fields back.
use Rattle.std.specs.Prelude.{◌≡◌, ℕ, ◌+◌, ◌-◌, ◌*◌, ◌≤◌}
use Rattle.std.proofs.Common.{arith, sym}

-- so many turns there are to the next sweep, where so many there were since the last
given_back : (every left : ℕ) → left ≤ every → every - (every - left) ≡ left
given_back every left le = omega (arith, le)

pub same_fields : {A : Type 0} (f : ℕ → ℕ → A) (every limit left most : ℕ) → left ≤ every → most ≡ every * (limit + 1)
    → f (every - (every - left)) (every * (limit + 1)) ≡ f left most
same_fields f every limit left most le is = λ i. f (given_back every left le i) (sym is i)
