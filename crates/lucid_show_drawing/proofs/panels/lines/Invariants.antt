use Rattle.std.proofs.Common.{List, ◌++◌, map, length}
use Rattle.lucid_show_grid.specs.Grids.{PlainLine, plain_line}
use Rattle.lucid_show_outline.specs.Views.{view_of}
use Rattle.lucid_show_drawing.specs.Orders.{RowsTogether}
use Rattle.lucid_show_drawing.specs.Panels.{AreLines, plain_roles}
use Rattle.lucid_show_drawing.proofs.panels.lines.Given as goal

-- with the lines of what is left they are all
abbrev pub invariant-loop-first : goal.invariant-loop-first
invariant-loop-first l = record {
  together : RowsTogether l.rest;
  so_far : (ls : List PlainLine) → AreLines (view_of l.source) (plain_roles l.roles) l.rest ls
      → AreLines (view_of l.source) (plain_roles l.roles) l.panel (map plain_line l.lines.items ++ ls);
}

abbrev pub decreases-loop-first : goal.decreases-loop-first
decreases-loop-first l = length l.rest
