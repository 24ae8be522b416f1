use Rattle.std.proofs.Common.{map, ◌≡◌, drop}
use Rattle.lucid_show_grid.specs.Grids.{plain_mark}
use Rattle.lucid_show_grid.specs.Widths.{longest, values_of}
use Rattle.lucid_show_grid.proofs.widths.longest_mark.Given as goal

-- with what is left it is the longest
abbrev pub invariant-loop-mark : goal.invariant-loop-mark
invariant-loop-mark l = longest l.longest (values_of (map plain_mark (drop l.mark-index l.marks))) ≡ longest l.least (values_of (map plain_mark l.marks))
