use Rattle.std.proofs.Common.{map, ◌≡◌, ◌++◌, drop}
use Rattle.lucid_show_grid.specs.Grids.{plain_panel}
use Rattle.lucid_show_grid.specs.Places.{place_panels, plain_placed}
use Rattle.lucid_show_grid.proofs.places.place_panels.Given as goal

-- what is placed and what is left are all
abbrev pub invariant-loop-panel : goal.invariant-loop-panel
invariant-loop-panel l = map plain_placed l.placed.items ++ place_panels l.y (map plain_panel (drop l.panel-index l.panels)) ≡ place_panels l.top (map plain_panel l.panels)
