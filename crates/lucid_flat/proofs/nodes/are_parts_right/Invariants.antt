use Rattle.lucid_flat.proofs.SoundCommon.{drop, ◌↔◌, ArePartsRight}
use Rattle.lucid_flat.proofs.nodes.are_parts_right.Given as goal

-- all are right where those from this one on are
abbrev pub invariant-loop-part : goal.invariant-loop-part
invariant-loop-part l = ArePartsRight l.rows l.scope l.id (drop l.part-index l.parts) ↔ ArePartsRight l.rows l.scope l.id l.parts
