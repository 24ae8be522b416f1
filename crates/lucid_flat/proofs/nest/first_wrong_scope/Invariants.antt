use Rattle.lucid_flat.proofs.SoundCommon.{ScopeIsRight}
use Rattle.lucid_flat.proofs.RightRows.{RightBefore}
use Rattle.lucid_flat.proofs.nest.first_wrong_scope.Given as goal

-- the scopes before this one are right
abbrev pub invariant-loop-id : goal.invariant-loop-id
invariant-loop-id l = RightBefore ScopeIsRight l.rows l.id
