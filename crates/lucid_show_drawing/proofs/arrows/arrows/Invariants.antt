use Rattle.std.proofs.Common.{List, ◌++◌, drop}
use Rattle.lucid_show_grid.specs.declared.grid.Arrow.{Arrow}
use Rattle.lucid_show_outline.specs.Views.{view_of}
use Rattle.lucid_show_drawing.specs.Arrows.{AreArrows, cells_of}
use Rattle.lucid_show_drawing.proofs.arrows.arrows.Given as goal

-- with the arrows of what is left they are all
abbrev pub invariant-loop-from : goal.invariant-loop-from
invariant-loop-from l =
    (more : List Arrow) → AreArrows (view_of l.source) (cells_of l.shown) l.from (drop l.from (cells_of l.shown)) more
    → AreArrows (view_of l.source) (cells_of l.shown) 0 (cells_of l.shown) (l.arrows.items ++ more)
