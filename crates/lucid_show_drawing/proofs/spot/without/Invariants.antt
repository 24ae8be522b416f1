use Rattle.std.proofs.Common.{◌≡◌, ◌-◌}
use Rattle.lucid_show_drawing.specs.Spots.{without}
use Rattle.lucid_show_drawing.proofs.spot.without.Given as goal

-- without those that are left to leave off
abbrev pub invariant-loop-frame : goal.invariant-loop-frame
invariant-loop-frame l = without l.count l.contexts l.number ≡ without (l.count - l._frame) l.contexts l.at
