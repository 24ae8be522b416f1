use Rattle.lucid_cycles.proofs.Common.{ℕ, ◌<◌, ◌≤◌, length, get_or}
use Rattle.lucid_cycles.proofs.cycle.least_at.Given as goal

abbrev pub invariant-loop-i : goal.invariant-loop-i
invariant-loop-i l = (l.at < length l.numbers) × ((k : ℕ) → k < l.i → get_or l.numbers l.at 0 ≤ get_or l.numbers k 0)
