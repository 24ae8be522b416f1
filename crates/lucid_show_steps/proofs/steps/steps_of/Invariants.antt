use Rattle.std.proofs.Common.{◌≡◌, ◌++◌, length}
use Rattle.lucid_show_steps.specs.Events.{plain_events}
use Rattle.lucid_show_steps.specs.Steps.{plain_steps, steps, steps_of}
use Rattle.lucid_show_steps.proofs.steps.steps_of.Given as goal

-- the steps so far and those that are left
abbrev pub invariant-loop-event : goal.invariant-loop-event
invariant-loop-event l = plain_steps l.telling.steps.items ++ steps l.telling.time l.telling.begun (plain_events l.rest) ≡ steps_of (plain_events l.fn.events)

abbrev pub decreases-loop-event : goal.decreases-loop-event
decreases-loop-event l = length l.rest
