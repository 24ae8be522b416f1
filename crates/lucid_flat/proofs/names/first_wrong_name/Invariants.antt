use Rattle.lucid_flat.proofs.SoundCommon.{NameIsRight}
use Rattle.lucid_flat.proofs.RightRows.{RightBefore}
use Rattle.lucid_flat.proofs.names.first_wrong_name.Given as goal

-- the rows before this one are right
abbrev pub invariant-loop-id : goal.invariant-loop-id
invariant-loop-id l = RightBefore (λ id. NameIsRight l.table) l.rows l.id
