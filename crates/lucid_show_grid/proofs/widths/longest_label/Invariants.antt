use Rattle.std.proofs.Common.{map, ◌≡◌, drop}
use Rattle.lucid_show_grid.specs.Grids.{plain_line}
use Rattle.lucid_show_grid.specs.Widths.{labels, longest}
use Rattle.lucid_show_grid.proofs.widths.longest_label.Given as goal

-- with what is left it is the longest
abbrev pub invariant-loop-line : goal.invariant-loop-line
invariant-loop-line l = longest l.longest (labels (map plain_line (drop l.line-index l.lines))) ≡ longest l.least (labels (map plain_line l.lines))
