use Rattle.lucid_flat.proofs.SoundCommon.{PlaceIsRight}
use Rattle.lucid_flat.proofs.RightRows.{RightBefore}
use Rattle.lucid_flat.proofs.places.first_wrong_place.Given as goal

-- the rows before this one are right
abbrev pub invariant-loop-id : goal.invariant-loop-id
invariant-loop-id l = RightBefore (λ id. PlaceIsRight l.table) l.rows l.id
