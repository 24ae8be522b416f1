use Rattle.lucid_cycles.proofs.Common.{levels_of}
use Rattle.lucid_cycles.proofs.Closing.{Back}
use Rattle.lucid_cycles.proofs.cycle.cycle.Given as goal

abbrev pub invariant-loop-level : goal.invariant-loop-level
invariant-loop-level l = Back l.edges l.factor l.count (levels_of l.levels) l.names.items l.delays.items l.level l.name

abbrev pub decreases-loop-level : goal.decreases-loop-level
decreases-loop-level l = l.level
