use Rattle.lucid_retire.proofs.Common.{◌≡◌, take, Some, None, Key, entry_at, if◌then◌else◌}
use Rattle.lucid_retire.specs.Script.{is_due}
use Rattle.lucid_retire.proofs.scripted.remove_due.Given as goal

-- the keys that the scraps so far name are dropped
abbrev pub invariant-loop-scrap : goal.invariant-loop-scrap
invariant-loop-scrap l = record {
  dropped : (q : Key) → entry_at l.warehouse q ≡ (if is_due (Some l.turn) (take l.scrap-index l.scraps) q then None else entry_at l.initial.warehouse q);
  lost : l.warehouse.lost ≡ l.initial.warehouse.lost;
}
