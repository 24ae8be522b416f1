use Rattle.std.proofs.Common.{map, ◌≡◌, ◌++◌, drop}
use Rattle.lucid_show_grid.specs.Grids.{plain_mark}
use Rattle.lucid_show_grid.specs.Places.{HasRisen, place_mark, plain_placed}
use Rattle.lucid_show_grid.proofs.places.place_marks.Given as goal

-- what is placed and what is left are all
abbrev pub invariant-loop-mark : goal.invariant-loop-mark
invariant-loop-mark l = record {
  all : map plain_placed l.placed.items ++ map (place_mark l.frame l.times l.line) (map plain_mark (drop l.mark-index l.marks)) ≡ map plain_placed l.initial.placed.items ++ map (place_mark l.frame l.times l.line) (map plain_mark l.marks);
  risen : HasRisen l.times l.risen;
}
