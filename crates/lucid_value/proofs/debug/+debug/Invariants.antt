use Rattle.lucid_value.proofs.Common.{◌≤◌, size_items}
use Rattle.lucid_value.proofs.debug.+debug.Given as goal

abbrev pub decreases-write_value : goal.decreases-write_value
decreases-write_value g l = goal.size-write_value g l

abbrev pub decreases-write_list : goal.decreases-write_list
decreases-write_list g l = goal.size-write_list g l

abbrev pub invariant-write_list-loop-rest : goal.invariant-write_list-loop-rest
invariant-write_list-loop-rest g l = size_items l.rest ≤ size_items l.fn.list
