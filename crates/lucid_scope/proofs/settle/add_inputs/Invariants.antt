use Rattle.lucid_scope.proofs.Common.{◌≡◌, drop, fold, map, key_bytes, with_mark}
use Rattle.lucid_scope.proofs.settle.add_inputs.Given as goal

abbrev pub invariant-loop-mark : goal.invariant-loop-mark
invariant-loop-mark l =
    (map key_bytes l.set.keys ≡ l.names.items) × (fold with_mark l.names.items (drop l.mark-index l.marks) ≡ fold with_mark l.fn.names.items l.marks)
