use Rattle.std.proofs.Common.{◌≡◌, ◌+◌, ◌≤◌, ◌++◌, ◌*◌}
use Rattle.lucid_tree.specs.Size.{nodes, nodes_in, nodes_in_defs}
use Rattle.lucid_show_outline.specs.Pieces.{lent, found_in, found_in_defs}
use Rattle.lucid_show_outline.proofs.pieces.+pieces.Given as goal

abbrev pub decreases-find_pieces : goal.decreases-find_pieces
decreases-find_pieces l = 3 * nodes l.tree.now

abbrev pub decreases-find_in_block : goal.decreases-find_in_block
decreases-find_in_block l = 3 * (nodes l.subject.now + nodes_in_defs l.defs.now) + 2

abbrev pub decreases-find_in_parts : goal.decreases-find_in_parts
decreases-find_in_parts l = 3 * nodes_in l.parts + 1

abbrev pub decreases-find_in_defs : goal.decreases-find_in_defs
decreases-find_in_defs l = 3 * nodes_in_defs l.defs.now + 1

abbrev pub invariant-find_in_parts-loop-part : goal.invariant-find_in_parts-loop-part
invariant-find_in_parts-loop-part l =
    (goal.iterator-find_in_parts-loop-part).can_next l.part-iterator
    × (goal.iterator-find_in_parts-loop-part).is_finite l.part-iterator
    × (lent l.to.items ++ found_in l.part-iterator ≡ lent l.initial.to.items ++ found_in l.fn.parts)
    × (nodes_in l.part-iterator ≤ nodes_in l.fn.parts)

abbrev pub invariant-find_in_defs-loop-def : goal.invariant-find_in_defs-loop-def
invariant-find_in_defs-loop-def l =
    (goal.iterator-find_in_defs-loop-def).can_next l.def-iterator
    × (goal.iterator-find_in_defs-loop-def).is_finite l.def-iterator
    × (lent l.to.items ++ found_in_defs l.def-iterator ≡ lent l.initial.to.items ++ found_in_defs l.defs)
    × (nodes_in_defs l.def-iterator ≤ nodes_in_defs l.defs)
