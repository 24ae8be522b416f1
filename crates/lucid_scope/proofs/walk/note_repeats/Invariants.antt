use Rattle.lucid_scope.proofs.Common.{◌≡◌, ◌++◌, map, drop, length, ◌-◌, repeats, no_names, mark, is_seen}
use Rattle.lucid_scope.proofs.walk.note_repeats.Given as goal

abbrev pub invariant-loop-i : goal.invariant-loop-i
invariant-loop-i l =
    (l.walk.table ≡ l.initial.walk.table)
    × (l.walk.marks.items ++ map mark (repeats (is_seen l.seen) (drop l.i l.names) (drop l.i l.places)) ≡ l.initial.walk.marks.items ++ map mark
    (repeats no_names l.names l.places))

abbrev pub decreases-loop-i : goal.decreases-loop-i
decreases-loop-i l = length l.names - l.i
