use Rattle.std.proofs.Common.{ℕ, ◌<◌, get_or}
use Rattle.lucid_show_grid.proofs.places.column_behind.Given as goal

-- those before are earlier
abbrev pub invariant-loop-column : goal.invariant-loop-column
invariant-loop-column l = (k : ℕ) → k < l.column → get_or l.times k 0 < l.time
