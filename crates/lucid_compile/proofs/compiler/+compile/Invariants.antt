use Rattle.lucid_compile.proofs.Common.{ℕ, List, ◌≡◌, ◌++◌, ◌+◌, ◌≤◌, length, take, drop, nodes_in_defs, operands, Numbered, Lists, linked, AddsTrees, AddsDefs, ◌*◌, nodes}
use Rattle.lucid_tree.specs.Size.{nodes_in}
use Rattle.lucid_compile.proofs.compiler.+compile.Given as goal

abbrev pub decreases-add_tree : goal.decreases-add_tree
decreases-add_tree l = 3 * nodes l.tree.now + 1

abbrev pub decreases-add_operands : goal.decreases-add_operands
decreases-add_operands l = 3 * nodes l.tree.now

abbrev pub decreases-add_block : goal.decreases-add_block
decreases-add_block l = 3 * (nodes l.block.now.subject + nodes_in_defs l.block.now.defs) + 2

-- what adds the operands that are left adds, after those before, all of them; the numbers of those before wait behind others
abbrev pub invariant-add_operands-loop-part : goal.invariant-add_operands-loop-part
invariant-add_operands-loop-part l =
    (goal.iterator-add_operands-loop-part).can_next l.part-iterator
    × (goal.iterator-add_operands-loop-part).is_finite l.part-iterator
    × ((w : Numbered) (n : Lists) (more : List ℕ) → AddsTrees w (linked w l.rows) n l.here l.part-iterator more
    → AddsTrees w (linked w l.initial.rows) n l.here (operands l.tree) (drop l.before l.ids.items ++ more))
    × (l.before ≤ length l.ids.items)
    × (take l.before l.ids.items ≡ l.fn.ids.items)
    × (nodes_in l.part-iterator ≤ nodes_in (operands l.tree))

-- the same of definitions
abbrev pub invariant-add_block-loop-def : goal.invariant-add_block-loop-def
invariant-add_block-loop-def l =
    (goal.iterator-add_block-loop-def).can_next l.def-iterator
    × (goal.iterator-add_block-loop-def).is_finite l.def-iterator
    × ((w : Numbered) (n : Lists) → AddsDefs w (linked w l.rows) n l.inside l.here l.def-iterator
    → AddsDefs w (linked w l.initial.rows) n l.inside l.here l.block.defs)
    × (l.ids.items ≡ l.fn.ids.items)
    × (nodes_in_defs l.def-iterator ≤ nodes_in_defs l.block.defs)
