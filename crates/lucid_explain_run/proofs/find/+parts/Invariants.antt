use Rattle.std.proofs.Common.{◌≡◌, ◌+◌, ◌≤◌, ◌*◌}
use Rattle.std.specs.List.{find}
use Rattle.lucid_tree.specs.Size.{nodes, nodes_in, nodes_in_defs}
use Rattle.lucid_explain_run.specs.Parts.{parts_in, parts_in_defs, stands_at}
use Rattle.lucid_explain_run.proofs.find.+parts.Given as goal

abbrev pub decreases-part_at : goal.decreases-part_at
decreases-part_at l = 3 * nodes l.tree.now

abbrev pub decreases-part_in_block : goal.decreases-part_in_block
decreases-part_in_block l = 3 * (nodes l.subject.now + nodes_in_defs l.defs.now) + 2

abbrev pub decreases-part_in : goal.decreases-part_in
decreases-part_in l = 3 * nodes_in l.parts + 1

abbrev pub decreases-part_in_defs : goal.decreases-part_in_defs
decreases-part_in_defs l = 3 * nodes_in_defs l.defs.now + 1

abbrev pub invariant-part_in-loop-part : goal.invariant-part_in-loop-part
invariant-part_in-loop-part l =
    (goal.iterator-part_in-loop-part).can_next l.part-iterator
    × (goal.iterator-part_in-loop-part).is_finite l.part-iterator
    × (find (stands_at l.at) (parts_in l.part-iterator) ≡ find (stands_at l.at) (parts_in l.fn.parts))
    × (nodes_in l.part-iterator ≤ nodes_in l.fn.parts)

abbrev pub invariant-part_in_defs-loop-def : goal.invariant-part_in_defs-loop-def
invariant-part_in_defs-loop-def l =
    (goal.iterator-part_in_defs-loop-def).can_next l.def-iterator
    × (goal.iterator-part_in_defs-loop-def).is_finite l.def-iterator
    × (find (stands_at l.at) (parts_in_defs l.def-iterator) ≡ find (stands_at l.at) (parts_in_defs l.defs))
    × (nodes_in_defs l.def-iterator ≤ nodes_in_defs l.defs)
