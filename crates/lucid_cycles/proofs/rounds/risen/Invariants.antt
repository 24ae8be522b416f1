use Rattle.lucid_cycles.proofs.Common.{ℕ, ◌<◌, ◌≤◌, potential}
use Rattle.lucid_cycles.proofs.rounds.risen.Given as goal

abbrev pub invariant-loop-k : goal.invariant-loop-k
invariant-loop-k l = (j : ℕ) → j < l.k → potential l.after j ≤ potential l.before j
