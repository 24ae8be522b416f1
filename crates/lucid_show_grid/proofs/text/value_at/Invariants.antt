use Rattle.std.proofs.Common.{map, ◌≡◌, drop}
use Rattle.lucid_show_grid.specs.Grids.{plain_mark}
use Rattle.lucid_show_grid.specs.Text.{value_at}
use Rattle.lucid_show_grid.proofs.text.value_at.Given as goal

-- it is none of those before
abbrev pub invariant-loop-mark : goal.invariant-loop-mark
invariant-loop-mark l = value_at (map plain_mark l.marks) l.time ≡ value_at (map plain_mark (drop l.mark-index l.marks)) l.time
