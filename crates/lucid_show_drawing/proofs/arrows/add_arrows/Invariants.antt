use Rattle.std.proofs.Common.{◌≡◌, ◌++◌, drop}
use Rattle.lucid_show_drawing.specs.Orders.{arrows_by, place_in}
use Rattle.lucid_show_drawing.proofs.arrows.add_arrows.Given as goal

-- those so far, and those that are left
abbrev pub invariant-loop-cell : goal.invariant-loop-cell
invariant-loop-cell l =
    l.arrows.items ++ arrows_by (place_in l.places) l.from (drop l.cell-index l.cells) ≡ l.initial.arrows.items ++ arrows_by (place_in l.places) l.from l.cells
