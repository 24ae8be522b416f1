use Rattle.lucid_scope.proofs.Common.{◌≡◌, ◌≤◌, ℕ, List, length, drop, defs_of, definition, look, or_outer, definition_owner, put_back}
use Rattle.lucid_scope.proofs.table.enter_block.Given as goal

abbrev pub invariant-loop-left : goal.invariant-loop-left
invariant-loop-left l =
    (l.left ≤ length l.items)
    × ((n : List ℕ) → look l.table n ≡ or_outer (definition_owner (definition n (defs_of (drop l.left l.items)))) (look l.initial.table n))
    × ((n : List ℕ) → put_back l.saved.items (look l.table) n ≡ look l.initial.table n)

abbrev pub decreases-loop-left : goal.decreases-loop-left
decreases-loop-left l = l.left
