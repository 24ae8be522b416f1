use Rattle.std.proofs.Common.{map, ◌≡◌, ◌++◌, drop}
use Rattle.lucid_show_grid.specs.Grids.{plain_panel}
use Rattle.lucid_show_grid.specs.Picture.{panel_frames}
use Rattle.lucid_show_grid.proofs.picture.put_panels.Given as goal

-- what is written and what is left are all
abbrev pub invariant-loop-panel : goal.invariant-loop-panel
invariant-loop-panel l = l.to.items ++ panel_frames l.y (map plain_panel (drop l.panel-index l.panels)) ≡ l.initial.to.items ++ panel_frames l.top (map plain_panel l.panels)
