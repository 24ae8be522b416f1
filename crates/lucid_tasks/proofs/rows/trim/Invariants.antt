use Rattle.lucid_tasks.proofs.Common.{vec_len, Trims}
use Rattle.lucid_tasks.proofs.rows.trim.Given as goal

abbrev pub invariant-loop-row : goal.invariant-loop-row
invariant-loop-row l = Trims l.initial.rows.items l.rows.items

abbrev pub decreases-loop-row : goal.decreases-loop-row
decreases-loop-row l = vec_len l.rows
