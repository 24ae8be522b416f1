use Rattle.lucid_cycles.proofs.Totals.{Summed}
use Rattle.lucid_cycles.proofs.line.sum_of.Given as goal

abbrev pub invariant-loop-delay : goal.invariant-loop-delay
invariant-loop-delay l = Summed l.delays l.delay-index l.sum
