use Rattle.std.proofs.Common.{map, ◌≡◌, ◌++◌, drop}
use Rattle.lucid_show_grid.specs.Places.{plain_placed}
use Rattle.lucid_show_grid.specs.Boxes.{boxes_text}
use Rattle.lucid_show_grid.proofs.boxes.put_boxes.Given as goal

-- what is written and what is left are all
abbrev pub invariant-loop-placed : goal.invariant-loop-placed
invariant-loop-placed l = l.to.items ++ boxes_text (map plain_placed (drop l.placed-index l.values)) ≡ l.initial.to.items ++ boxes_text (map plain_placed l.values)
