use Rattle.lucid_scope.proofs.Common.{◌≡◌, ℕ, ◌<◌, None, get_or, mark_fault, Mark}
use Rattle.lucid_scope.proofs.settle.first_fault.Given as goal

abbrev pub invariant-loop-mark : goal.invariant-loop-mark
invariant-loop-mark l = (k : ℕ) (d : Mark) → k < l.mark-index → mark_fault (get_or l.marks k d) ≡ None
