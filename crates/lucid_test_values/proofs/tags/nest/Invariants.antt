use Rattle.lucid_tags.specs.Known.{IsKnown}
use Rattle.lucid_test_values.proofs.tags.nest.Given as goal

abbrev pub invariant-loop-time : goal.invariant-loop-time
invariant-loop-time l = IsKnown l.tags l.tag
