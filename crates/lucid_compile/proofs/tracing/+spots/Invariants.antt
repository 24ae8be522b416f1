use Rattle.lucid_compile.proofs.Common.{◌≡◌, ◌+◌, ◌≤◌, ◌++◌, ◌*◌, nodes, nodes_in_defs, right_of}
use Rattle.lucid_tree.specs.Size.{nodes_in}
use Rattle.lucid_compile.specs.Origins.{spots_in, spots_in_defs}
use Rattle.lucid_compile.proofs.tracing.+spots.Given as goal

abbrev pub decreases-find_spots : goal.decreases-find_spots
decreases-find_spots l = 4 * nodes l.tree.now

abbrev pub decreases-find_in_block : goal.decreases-find_in_block
decreases-find_in_block l = 4 * (nodes l.subject.now + nodes_in_defs l.defs.now) + 3

abbrev pub decreases-find_in_parts : goal.decreases-find_in_parts
decreases-find_in_parts l = 4 * nodes_in l.parts + 1

abbrev pub decreases-find_in_defs : goal.decreases-find_in_defs
decreases-find_in_defs l = 4 * nodes_in_defs l.defs.now + 2

abbrev pub decreases-find_in_def : goal.decreases-find_in_def
decreases-find_in_def l = 4 * nodes (right_of l.def.now.kind) + 1

abbrev pub invariant-find_in_parts-loop-part : goal.invariant-find_in_parts-loop-part
invariant-find_in_parts-loop-part l =
    (goal.iterator-find_in_parts-loop-part).can_next l.part-iterator
    × (goal.iterator-find_in_parts-loop-part).is_finite l.part-iterator
    × (l.found.items ++ spots_in l.part-iterator ≡ l.initial.found.items ++ spots_in l.fn.parts)
    × (nodes_in l.part-iterator ≤ nodes_in l.fn.parts)

abbrev pub invariant-find_in_defs-loop-def : goal.invariant-find_in_defs-loop-def
invariant-find_in_defs-loop-def l =
    (goal.iterator-find_in_defs-loop-def).can_next l.def-iterator
    × (goal.iterator-find_in_defs-loop-def).is_finite l.def-iterator
    × (l.found.items ++ spots_in_defs l.def-iterator ≡ l.initial.found.items ++ spots_in_defs l.defs)
    × (nodes_in_defs l.def-iterator ≤ nodes_in_defs l.defs)
