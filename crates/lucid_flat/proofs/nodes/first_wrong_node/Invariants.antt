use Rattle.lucid_flat.proofs.SoundCommon.{NodeIsRight}
use Rattle.lucid_flat.proofs.RightRows.{RightBefore}
use Rattle.lucid_flat.proofs.nodes.first_wrong_node.Given as goal

-- the rows before this one are right
abbrev pub invariant-loop-id : goal.invariant-loop-id
invariant-loop-id l = RightBefore (NodeIsRight l.table) l.rows l.id
