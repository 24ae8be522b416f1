use Rattle.lucid_cycles.proofs.Common.{take, AreLeastAdded}
use Rattle.lucid_cycles.proofs.rounds.added.Given as goal

abbrev pub invariant-loop-edge : goal.invariant-loop-edge
invariant-loop-edge l = AreLeastAdded l.factor l.potentials l.add (take l.edge-index l.edges)
