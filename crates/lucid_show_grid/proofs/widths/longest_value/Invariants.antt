use Rattle.std.proofs.Common.{map, ◌≡◌, drop}
use Rattle.lucid_show_grid.specs.Grids.{plain_line}
use Rattle.lucid_show_grid.specs.Widths.{longest, values}
use Rattle.lucid_show_grid.proofs.widths.longest_value.Given as goal

-- with what is left it is the longest
abbrev pub invariant-loop-line : goal.invariant-loop-line
invariant-loop-line l = longest l.longest (values (map plain_line (drop l.line-index l.lines))) ≡ longest l.least (values (map plain_line l.lines))
