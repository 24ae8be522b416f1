use Rattle.lucid_value.proofs.Common.{◌≡◌, ◌≤◌, size_items}
use Rattle.lucid_value.specs.Equality.{same_items}
use Rattle.lucid_value.proofs.same.+alike.Given as goal

abbrev pub decreases-alike : goal.decreases-alike
decreases-alike l = goal.size-alike l

abbrev pub decreases-all_alike : goal.decreases-all_alike
decreases-all_alike l = goal.size-all_alike l

abbrev pub invariant-all_alike-loop-rest : goal.invariant-all_alike-loop-rest
invariant-all_alike-loop-rest l = record {
  same : same_items l.rest l.other ≡ same_items l.fn.left l.fn.right;
  shallow : size_items l.rest ≤ size_items l.fn.left;
}
