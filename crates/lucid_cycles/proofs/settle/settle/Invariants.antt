use Rattle.lucid_cycles.proofs.Common.{◌+◌, ◌-◌, vec_len}
use Rattle.lucid_cycles.proofs.Settling.{Settling}
use Rattle.lucid_cycles.proofs.settle.settle.Given as goal

abbrev pub invariant-loop-last : goal.invariant-loop-last
invariant-loop-last l = Settling l.edges l.factor l.names l.levels.items l.last.items

abbrev pub decreases-loop-last : goal.decreases-loop-last
decreases-loop-last l = l.names + 1 - vec_len l.levels
