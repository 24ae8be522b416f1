use Rattle.lucid_tree.proofs.Common.{◌≡◌, ◌+◌, ◌*◌, ◌≤◌, max, nodes, nodes_in, nodes_in_defs, depths, depths_in_defs}
use Rattle.lucid_tree.proofs.depth.+depth.Given as goal

abbrev pub decreases-depth_of : goal.decreases-depth_of
decreases-depth_of l = 2 * nodes l.tree.now

abbrev pub decreases-depth_of_parts : goal.decreases-depth_of_parts
decreases-depth_of_parts l = 2 * nodes_in l.parts + 1

abbrev pub decreases-depth_of_defs : goal.decreases-depth_of_defs
decreases-depth_of_defs l = 2 * nodes_in_defs l.defs + 1

abbrev pub invariant-depth_of_parts-loop-part : goal.invariant-depth_of_parts-loop-part
invariant-depth_of_parts-loop-part l =
    (goal.iterator-depth_of_parts-loop-part).can_next l.part-iterator
    × (goal.iterator-depth_of_parts-loop-part).is_finite l.part-iterator
    × (max l.deepest (depths l.part-iterator) ≡ depths l.fn.parts)
    × (nodes_in l.part-iterator ≤ nodes_in l.fn.parts)

abbrev pub invariant-depth_of_defs-loop-def : goal.invariant-depth_of_defs-loop-def
invariant-depth_of_defs-loop-def l =
    (goal.iterator-depth_of_defs-loop-def).can_next l.def-iterator
    × (goal.iterator-depth_of_defs-loop-def).is_finite l.def-iterator
    × (max l.deepest (depths_in_defs l.def-iterator) ≡ depths_in_defs l.fn.defs)
    × (nodes_in_defs l.def-iterator ≤ nodes_in_defs l.fn.defs)
