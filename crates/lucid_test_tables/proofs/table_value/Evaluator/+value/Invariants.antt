use Rattle.std.proofs.Common.{◌≡◌, ◌≤◌, ◌+◌, ◌*◌, ◌^◌, length, max}
use Rattle.lucid_test_tables.proofs.table_value.Evaluator.+value.Given as goal

-- a name that is entered lowers the limit, and each other step goes to a node with a lower number
abbrev pub decreases-value : goal.decreases-value
decreases-value l = l.at.limit * 2 ^ 34 + 3 * l.id + 4

abbrev pub decreases-applied : goal.decreases-applied
decreases-applied l = l.at.limit * 2 ^ 34 + 3 * l.id + 3

abbrev pub decreases-decided : goal.decreases-decided
decreases-decided l = l.at.limit * 2 ^ 34 + 3 * max l.left l.right + 5

abbrev pub decreases-chosen : goal.decreases-chosen
decreases-chosen l = l.at.limit * 2 ^ 34 + 3 * max l.test (max l.yes l.no) + 5

abbrev pub decreases-beside : goal.decreases-beside
decreases-beside l = l.at.limit * 2 ^ 34 + 3 * max l.left l.right + 5

abbrev pub decreases-on_found : goal.decreases-on_found
decreases-on_found l = l.at.limit * 2 ^ 34 + 3 * max l.left l.right + 6

abbrev pub decreases-on_counted : goal.decreases-on_counted
decreases-on_counted l = l.at.limit * 2 ^ 34 + 3 * max l.left l.right + 6

abbrev pub decreases-on_placed : goal.decreases-on_placed
decreases-on_placed l = l.at.limit * 2 ^ 34 + 3 * max l.left l.right + 6

abbrev pub decreases-on : goal.decreases-on
decreases-on l = l.at.limit * 2 ^ 34 + 3 * l.id + 5

abbrev pub decreases-found : goal.decreases-found
decreases-found l = l.at.limit * 2 ^ 34 + 3 * l.test + 5

abbrev pub decreases-counted : goal.decreases-counted
decreases-counted l = l.at.limit * 2 ^ 34 + 3 * l.test + 5

abbrev pub decreases-frozen : goal.decreases-frozen
decreases-frozen l = l.at.limit * 2 ^ 34 + 3 * l.subject + 5

abbrev pub decreases-called : goal.decreases-called
decreases-called l = l.at.limit * 2 ^ 34 + 2

abbrev pub decreases-referred : goal.decreases-referred
decreases-referred l = l.at.limit * 2 ^ 34 + 2

abbrev pub decreases-entered : goal.decreases-entered
decreases-entered l = l.at.limit * 2 ^ 34 + 1

-- a value for each argument so far
abbrev pub invariant-applied-loop-arg : goal.invariant-applied-loop-arg
invariant-applied-loop-arg l = length l.values.items ≡ l.arg-index

-- at most as many true values as times
abbrev pub invariant-counted-loop-time : goal.invariant-counted-loop-time
invariant-counted-loop-time l = l.number ≤ l.time
