-- What an edge asks of potentials covers the reference that it stands for.
use Rattle.lucid_cycles.proofs.Common.{ℕ, suc, ◌+◌, ◌*◌, ◌≤◌, arith, ℤ, pos, negsuc, ◌+ℤ◌, ◌*ℤ◌, ◌≤ℤ◌, ints, mul-le-mul_left}

-- what an edge asks, over numbers: s is what it starts from, y what its end has, and one or two more
reach-up : (a s y r t u v : ℕ) → y + r ≤ s + a * v → u + v ≤ t → a * u + y + r ≤ a * t + s
reach-up a s y r t u v h g = omega (arith, mul-le-mul_left a g)

reach-down : (a s y r t u v : ℕ) → y + r + a * v ≤ s → u ≤ t + v → a * u + y + r ≤ a * t + s
reach-down a s y r t u v h g = omega (arith, mul-le-mul_left a g)

pub reach : (a s y r t u : ℕ) (w : ℤ) → pos (y + r) ≤ℤ (pos s +ℤ (pos a *ℤ w)) → (pos u +ℤ w) ≤ℤ pos t → a * u + y + r ≤ a * t + s
reach a s y r t u (pos v) h g = reach-up a s y r t u v (omega (arith, ints, h)) (omega (arith, ints, g))
reach a s y r t u (negsuc v) h g = reach-down a s y r t u (suc v) (omega (arith, ints, h)) (omega (arith, ints, g))
