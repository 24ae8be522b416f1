use Rattle.lucid_value.proofs.Common.{◌≤◌}
use Rattle.lucid_value.specs.declared.List.TheDeep.{deep-Link}
use Rattle.lucid_value.proofs.Link.+drop.Given as goal

abbrev pub decreases-drop : goal.decreases-drop
decreases-drop l = goal.size-drop l

abbrev pub invariant-loop-self : goal.invariant-loop-self
invariant-loop-self l = deep-Link l.self ≤ deep-Link l.fn.self
