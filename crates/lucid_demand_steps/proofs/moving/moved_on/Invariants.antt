use Rattle.lucid_equations.specs.Programs.{table_of}
use Rattle.lucid_demand_steps.proofs.Passes.{Passes}
use Rattle.lucid_demand_steps.proofs.moving.moved_on.Given as goal

abbrev pub invariant-loop-next : goal.invariant-loop-next
invariant-loop-next l = Passes (table_of l.program) l.initial.tags l.tags l.initial.task l.task

abbrev pub decreases-loop-next : goal.decreases-loop-next
decreases-loop-next l = l.task.node
