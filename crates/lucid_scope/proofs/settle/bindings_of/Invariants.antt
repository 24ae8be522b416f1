use Rattle.lucid_scope.proofs.Common.{◌≡◌, ℕ, ◌<◌, None, get_or, nat_eq, lookup, mark_binding, Mark}
use Rattle.lucid_scope.proofs.settle.bindings_of.Given as goal

abbrev pub invariant-loop-mark : goal.invariant-loop-mark
invariant-loop-mark l =
    ((k : ℕ) (d : Mark) → k < l.mark-index → lookup (nat_eq (get_or l.marks k d).at) l.bindings.entries ≡ mark_binding l.inputs.names.items
    (get_or l.marks k d))
    × ((at : ℕ) → ((k : ℕ) (d : Mark) → k < l.mark-index → (get_or l.marks k d).at ≡ at → ⊥) → lookup (nat_eq at) l.bindings.entries ≡ None)
