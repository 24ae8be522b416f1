use Rattle.std.proofs.Common.{◌≡◌, ◌+◌, ◌-◌}
use Rattle.lucid_show_drawing.specs.Spots.{frames}
use Rattle.lucid_show_drawing.proofs.spot.frames.Given as goal

-- those that were left off and those that are left are all
abbrev pub invariant-loop-count : goal.invariant-loop-count
invariant-loop-count l = frames l.most l.contexts l.number ≡ l.count + frames (l.most - l.count) l.contexts l.at
