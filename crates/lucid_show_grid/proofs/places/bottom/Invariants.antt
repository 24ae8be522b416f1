use Rattle.std.proofs.Common.{map, ◌≡◌, drop}
use Rattle.lucid_show_grid.specs.Grids.{plain_panel}
use Rattle.lucid_show_grid.specs.Places.{bottom}
use Rattle.lucid_show_grid.proofs.places.bottom.Given as goal

abbrev pub invariant-loop-panel : goal.invariant-loop-panel
invariant-loop-panel l = bottom l.y (map plain_panel (drop l.panel-index l.panels)) ≡ bottom l.top (map plain_panel l.panels)
