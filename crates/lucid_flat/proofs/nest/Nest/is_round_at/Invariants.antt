use Rattle.lucid_flat.proofs.SoundCommon.{◌<◌, ◌≤◌, length, slice_index, IsRound}
use Rattle.lucid_flat.proofs.nest.Nest.is_round_at.Given as goal

-- the walk has come to a scope that is the scope or stands round it, not too far out
abbrev pub invariant-loop-at : goal.invariant-loop-at
invariant-loop-at l = record {
  known : l.at < length l.rows;
  round : IsRound l.rows l.at l.scope;
  deep : l.level ≤ slice_index l.self.depths.items l.at;
}

abbrev pub decreases-loop-at : goal.decreases-loop-at
decreases-loop-at l = l.at
