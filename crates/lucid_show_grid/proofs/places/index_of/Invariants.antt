use Rattle.std.proofs.Common.{◌≡◌, ◌+◌, drop}
use Rattle.lucid_show_grid.specs.Places.{index_of}
use Rattle.lucid_show_grid.proofs.places.index_of.Given as goal

-- it is none of those before
abbrev pub invariant-loop-column : goal.invariant-loop-column
invariant-loop-column l = index_of l.times l.time ≡ l.column + index_of (drop l.column l.times) l.time
