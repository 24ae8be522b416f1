use Rattle.lucid_tree.proofs.Common.{◌≡◌, ◌+◌, ◌*◌, ◌≤◌, ◌++◌, nodes, nodes_in, nodes_in_defs, listed, rights}
use Rattle.lucid_tree.proofs.copy.+copy.Given as goal

abbrev pub decreases-copy_onto : goal.decreases-copy_onto
decreases-copy_onto l = 3 * nodes l.tree.now + 1

abbrev pub decreases-copy_parts : goal.decreases-copy_parts
decreases-copy_parts l = 3 * nodes l.tree.now

abbrev pub decreases-copy_each : goal.decreases-copy_each
decreases-copy_each l = 3 * nodes_in l.parts + 2

abbrev pub decreases-copy_rights : goal.decreases-copy_rights
decreases-copy_rights l = 3 * nodes_in_defs l.defs + 2

abbrev pub invariant-copy_each-loop-part : goal.invariant-copy_each-loop-part
invariant-copy_each-loop-part l =
    (goal.iterator-copy_each-loop-part).can_next l.part-iterator
    × (goal.iterator-copy_each-loop-part).is_finite l.part-iterator
    × (l.copies.items ++ listed l.part-iterator ≡ l.fn.copies.items ++ listed l.fn.parts)
    × (nodes_in l.part-iterator ≤ nodes_in l.fn.parts)

abbrev pub invariant-copy_rights-loop-def : goal.invariant-copy_rights-loop-def
invariant-copy_rights-loop-def l =
    (goal.iterator-copy_rights-loop-def).can_next l.def-iterator
    × (goal.iterator-copy_rights-loop-def).is_finite l.def-iterator
    × (l.copies.items ++ rights l.def-iterator ≡ l.fn.copies.items ++ rights l.fn.defs)
    × (nodes_in_defs l.def-iterator ≤ nodes_in_defs l.fn.defs)
