use Rattle.std.proofs.Common.{map, take}
use Rattle.std.specs.List.{AllZip}
use Rattle.lucid_show_grid.specs.Grids.{plain_mark}
use Rattle.lucid_show_outline.specs.Views.{view_of}
use Rattle.lucid_show_drawing.specs.Panels.{IsMark, plain_roles}
use Rattle.lucid_show_drawing.proofs.panels.marks.Given as goal

-- those so far have their marks
abbrev pub invariant-loop-asked : goal.invariant-loop-asked
invariant-loop-asked l = AllZip (IsMark (view_of l.source) (plain_roles l.roles)) (take l.asked-index l.these) (map plain_mark l.marks.items)
