use Rattle.lucid_cycles.proofs.Common.{◌≡◌, ℕ, ◌<◌, get_or}
use Rattle.lucid_cycles.proofs.cycle.place_of.Given as goal

abbrev pub invariant-loop-i : goal.invariant-loop-i
invariant-loop-i l = (k : ℕ) → k < l.i → get_or l.numbers k 0 ≡ l.number → ⊥
