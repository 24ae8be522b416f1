use Rattle.lucid_scope.proofs.Common.{◌≡◌, told, work_left}
use Rattle.lucid_scope.proofs.steps.walk_tree.Given as goal

abbrev pub invariant-loop-step : goal.invariant-loop-step
invariant-loop-step l = told l.walk l.steps ≡ told l.initial.walk l.initial.steps

abbrev pub decreases-loop-step : goal.decreases-loop-step
decreases-loop-step l = work_left l.steps
