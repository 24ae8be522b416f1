use Rattle.lucid_scope.proofs.Common.{◌≡◌, ℕ, List, look, put_back, vec_len}
use Rattle.lucid_scope.proofs.table.leave.Given as goal

abbrev pub invariant-loop-last : goal.invariant-loop-last
invariant-loop-last l = (n : List ℕ) → put_back l.saved.items (look l.table) n ≡ put_back l.fn.saved.items (look l.initial.table) n

abbrev pub decreases-loop-last : goal.decreases-loop-last
decreases-loop-last l = vec_len l.saved
