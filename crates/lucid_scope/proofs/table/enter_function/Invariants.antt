use Rattle.lucid_scope.proofs.Common.{◌≡◌, ◌≤◌, ℕ, List, length, drop, param, look, or_outer, put_back}
use Rattle.lucid_scope.proofs.Hiding.{later_parameter}
use Rattle.lucid_scope.proofs.table.enter_function.Given as goal

abbrev pub invariant-loop-left : goal.invariant-loop-left
invariant-loop-left l =
    (l.left ≤ length l.items)
    × ((n : List ℕ) → look l.table n ≡ or_outer (later_parameter l.def l.left (param n (drop l.left l.items))) (look l.initial.table n))
    × ((n : List ℕ) → put_back l.saved.items (look l.table) n ≡ look l.initial.table n)

abbrev pub decreases-loop-left : goal.decreases-loop-left
decreases-loop-left l = l.left
