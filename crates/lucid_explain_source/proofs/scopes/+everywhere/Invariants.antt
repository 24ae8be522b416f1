use Rattle.lucid_explain_source.proofs.Common.{◌≡◌, ◌+◌, ◌≤◌, ◌++◌, lent, ◌*◌}
use Rattle.lucid_tree.specs.Size.{nodes, nodes_in, nodes_in_defs}
use Rattle.lucid_explain_source.specs.Scopes.{all_defs_in, all_defs_under}
use Rattle.lucid_explain_source.proofs.scopes.+everywhere.Given as goal

abbrev pub decreases-find_everywhere : goal.decreases-find_everywhere
decreases-find_everywhere l = 3 * nodes l.tree.now

abbrev pub decreases-find_under_block : goal.decreases-find_under_block
decreases-find_under_block l = 3 * (nodes l.subject.now + nodes_in_defs l.defs.now) + 2

abbrev pub decreases-find_under_parts : goal.decreases-find_under_parts
decreases-find_under_parts l = 3 * nodes_in l.parts + 1

abbrev pub decreases-find_under_defs : goal.decreases-find_under_defs
decreases-find_under_defs l = 3 * nodes_in_defs l.defs + 1

abbrev pub invariant-find_under_parts-loop-part : goal.invariant-find_under_parts-loop-part
invariant-find_under_parts-loop-part l =
    (goal.iterator-find_under_parts-loop-part).can_next l.part-iterator
    × (goal.iterator-find_under_parts-loop-part).is_finite l.part-iterator
    × (lent l.found.items ++ all_defs_in l.part-iterator ≡ lent l.initial.found.items ++ all_defs_in l.fn.parts)
    × (nodes_in l.part-iterator ≤ nodes_in l.fn.parts)

abbrev pub invariant-find_under_defs-loop-def : goal.invariant-find_under_defs-loop-def
invariant-find_under_defs-loop-def l =
    (goal.iterator-find_under_defs-loop-def).can_next l.def-iterator
    × (goal.iterator-find_under_defs-loop-def).is_finite l.def-iterator
    × (lent l.found.items ++ all_defs_under l.def-iterator ≡ lent l.initial.found.items ++ all_defs_under l.fn.defs)
    × (nodes_in_defs l.def-iterator ≤ nodes_in_defs l.fn.defs)
