use Rattle.std.proofs.Common.{map, ◌≡◌, ◌++◌, drop}
use Rattle.lucid_show_grid.specs.Grids.{plain_line}
use Rattle.lucid_show_grid.specs.Places.{place_lines, plain_placed}
use Rattle.lucid_show_grid.proofs.places.place_lines.Given as goal

-- what is placed and what is left are all
abbrev pub invariant-loop-number : goal.invariant-loop-number
invariant-loop-number l = map plain_placed l.placed.items ++ place_lines l.frame l.times l.number (map plain_line (drop l.number l.lines)) ≡ map plain_placed l.initial.placed.items ++ place_lines l.frame l.times 0 (map plain_line l.lines)
