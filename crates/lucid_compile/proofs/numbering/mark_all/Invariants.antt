use Rattle.lucid_compile.proofs.Common.{◌≡◌, ℕ, ◌+◌, ◌<◌, Some, get_or, nat_eq, lookup, Key, mark_by}
use Rattle.lucid_compile.proofs.numbering.mark_all.Given as goal

-- the keys before this one are marked, and all other places are as they were
abbrev pub invariant-loop-key : goal.invariant-loop-key
invariant-loop-key l =
    (l.next ≡ l.start + l.key-index)
    × ((k : ℕ) (d : Key) → k < l.key-index → lookup (nat_eq (get_or l.keys k d).at) l.marks.entries ≡ Some (mark_by (l.start + k) (get_or l.keys k d)))
    × ((at : ℕ) → ((k : ℕ) (d : Key) → k < l.key-index → (get_or l.keys k d).at ≡ at → ⊥)
    → lookup (nat_eq at) l.marks.entries ≡ lookup (nat_eq at) l.initial.marks.entries)
