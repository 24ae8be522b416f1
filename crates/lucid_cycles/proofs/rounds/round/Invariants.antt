use Rattle.lucid_cycles.proofs.Common.{Rounding}
use Rattle.lucid_cycles.proofs.rounds.round.Given as goal

abbrev pub invariant-loop-edge : goal.invariant-loop-edge
invariant-loop-edge l = Rounding l.edges l.factor l.before l.after.items l.edge-index
