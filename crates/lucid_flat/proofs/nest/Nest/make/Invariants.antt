use Rattle.lucid_flat.proofs.SoundCommon.{◌≤◌, length, IsNestOf, ◌-◌}
use Rattle.lucid_flat.proofs.nest.Nest.make.Given as goal

-- the depths and leaps of the first scopes
abbrev pub invariant-loop-depths : goal.invariant-loop-depths
invariant-loop-depths l = record {
  nest : IsNestOf l.rows l.depths.items l.leaps.items (length l.depths.items);
  known : length l.depths.items ≤ length l.rows;
}

abbrev pub decreases-loop-depths : goal.decreases-loop-depths
decreases-loop-depths l = length l.rows - length l.depths.items
