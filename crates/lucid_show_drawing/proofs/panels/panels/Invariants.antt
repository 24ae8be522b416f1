use Rattle.std.proofs.Common.{List, ◌++◌, map, length}
use Rattle.lucid_show_grid.specs.Grids.{PlainPanel, plain_panel}
use Rattle.lucid_show_outline.specs.Views.{view_of}
use Rattle.lucid_show_drawing.specs.Orders.{StandTogether}
use Rattle.lucid_show_drawing.specs.Panels.{ArePanels, plain_roles}
use Rattle.lucid_show_drawing.proofs.panels.panels.Given as goal

-- with the panels of what is left they are all
abbrev pub invariant-loop-first : goal.invariant-loop-first
invariant-loop-first l = record {
  together : StandTogether l.rest;
  so_far : (ps : List PlainPanel) → ArePanels (view_of l.source) (plain_roles l.roles) l.rest ps
      → ArePanels (view_of l.source) (plain_roles l.roles) l.shown (map plain_panel l.panels.items ++ ps);
}

abbrev pub decreases-loop-first : goal.decreases-loop-first
decreases-loop-first l = length l.rest
