use Rattle.lucid_tags.specs.Known.{IsKnown}
use Rattle.lucid_test_values.proofs.tags.spread.Given as goal

abbrev pub invariant-loop-place : goal.invariant-loop-place
invariant-loop-place l = IsKnown l.tags l.root
