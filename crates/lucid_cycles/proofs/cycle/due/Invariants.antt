use Rattle.lucid_cycles.proofs.Common.{take, All, Makes}
use Rattle.lucid_cycles.proofs.cycle.due.Given as goal

abbrev pub invariant-loop-edge : goal.invariant-loop-edge
invariant-loop-edge l = All (λ e. Makes l.factor l.before l.name l.value e → ⊥) (take l.edge-index l.edges)
