use Rattle.std.proofs.Common.{map, ◌≡◌, ◌++◌, drop}
use Rattle.lucid_show_grid.specs.Grids.{plain_line}
use Rattle.lucid_show_grid.specs.Text.{lines_text}
use Rattle.lucid_show_grid.proofs.text.put_lines.Given as goal

-- what is written and what is left are all
abbrev pub invariant-loop-line : goal.invariant-loop-line
invariant-loop-line l = l.to.items ++ lines_text l.columns l.times (map plain_line (drop l.line-index l.lines)) ≡ l.initial.to.items ++ lines_text l.columns l.times (map plain_line l.lines)
