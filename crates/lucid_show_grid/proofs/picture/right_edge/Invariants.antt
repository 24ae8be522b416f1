use Rattle.std.proofs.Common.{map, ◌≡◌, drop}
use Rattle.lucid_show_grid.specs.Grids.{plain_panel}
use Rattle.lucid_show_grid.specs.Picture.{right_edge}
use Rattle.lucid_show_grid.proofs.picture.right_edge.Given as goal

abbrev pub invariant-loop-panel : goal.invariant-loop-panel
invariant-loop-panel l = right_edge l.wide (map plain_panel (drop l.panel-index l.panels)) ≡ right_edge l.least (map plain_panel l.panels)
