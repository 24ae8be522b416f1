use Rattle.std.proofs.Common.{◌≡◌, ◌++◌, drop}
use Rattle.lucid_show_grid.specs.Picture.{heads}
use Rattle.lucid_show_grid.proofs.picture.put_heads.Given as goal

-- what is written and what is left are all
abbrev pub invariant-loop-column : goal.invariant-loop-column
invariant-loop-column l = l.to.items ++ heads l.frame l.column (drop l.column l.times) ≡ l.initial.to.items ++ heads l.frame 0 l.times
