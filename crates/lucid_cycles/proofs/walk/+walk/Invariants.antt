use Rattle.lucid_cycles.proofs.Common.{◌+◌, ◌*◌, ◌≤◌, length, nodes, nodes_in, places_in, places_in_defs, scoped_binding, HaveParts, DefsHaveParts, Fits, marks_in, marks_in_defs}
use Rattle.lucid_tree.specs.Size.{nodes_in_defs}
use Rattle.lucid_cycles.proofs.walk.+walk.Given as goal

abbrev pub decreases-walk_tree : goal.decreases-walk_tree
decreases-walk_tree g l = 2 * nodes l.tree.now

abbrev pub decreases-walk_parts : goal.decreases-walk_parts
decreases-walk_parts g l = 2 * nodes_in l.parts + 1

abbrev pub decreases-walk_defs : goal.decreases-walk_defs
decreases-walk_defs g l = 2 * nodes_in_defs l.defs + 1

abbrev pub invariant-walk_parts-loop-part : goal.invariant-walk_parts-loop-part
invariant-walk_parts-loop-part g l =
    (goal.iterator-walk_parts-loop-part g).can_next l.part-iterator
    × (goal.iterator-walk_parts-loop-part g).is_finite l.part-iterator
    × ((r : _) (t : _) → g.R.Reader.reads l.reader (marks_in (scoped_binding l.scoped) l.from l.delay l.later l.part-iterator) r t
    → g.R.Reader.reads l.initial.reader (marks_in (scoped_binding l.scoped) l.from l.first l.later l.fn.parts) r t)
    × Fits l.delay (length (places_in l.part-iterator))
    × Fits l.later (length (places_in l.part-iterator))
    × (HaveParts l.part-iterator → HaveParts l.fn.parts)
    × (nodes_in l.part-iterator ≤ nodes_in l.fn.parts)

abbrev pub invariant-walk_defs-loop-def : goal.invariant-walk_defs-loop-def
invariant-walk_defs-loop-def g l =
    (goal.iterator-walk_defs-loop-def g).can_next l.def-iterator
    × (goal.iterator-walk_defs-loop-def g).is_finite l.def-iterator
    × ((r : _) (t : _) → g.R.Reader.reads l.reader (marks_in_defs (scoped_binding l.scoped) l.def-iterator) r t
    → g.R.Reader.reads l.initial.reader (marks_in_defs (scoped_binding l.scoped) l.fn.defs) r t)
    × (length (places_in_defs l.def-iterator) ≤ 4294967296)
    × (DefsHaveParts l.def-iterator → DefsHaveParts l.fn.defs)
    × (nodes_in_defs l.def-iterator ≤ nodes_in_defs l.fn.defs)
