use Rattle.std.proofs.Common.{map, ◌≡◌, ◌++◌, drop}
use Rattle.lucid_show_grid.specs.Grids.{plain_line}
use Rattle.lucid_show_grid.specs.Picture.{names}
use Rattle.lucid_show_grid.proofs.picture.put_names.Given as goal

-- what is written and what is left are all
abbrev pub invariant-loop-number : goal.invariant-loop-number
invariant-loop-number l = l.to.items ++ names l.frame l.number (map plain_line (drop l.number l.lines)) ≡ l.initial.to.items ++ names l.frame 0 (map plain_line l.lines)
