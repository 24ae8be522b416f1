use Rattle.lucid_ops.proofs.Common.{◌≡◌, map, rises}
use Rattle.std.proofs.Common.{length}
use Rattle.lucid_ops.proofs.table.rise.Given as goal

abbrev pub invariant-loop-rest : goal.invariant-loop-rest
invariant-loop-rest g l = rises (map g.R.TableRow.seen_row l.rest) ≡ rises (map g.R.TableRow.seen_row l.fn.rows)

abbrev pub decreases-loop-rest : goal.decreases-loop-rest
decreases-loop-rest g l = length l.rest
