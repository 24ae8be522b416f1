use Rattle.lucid_tree.proofs.Common.{◌≡◌, rights, into_iter_items}
use Rattle.lucid_tree.proofs.Rebuilt.{before}
use Rattle.lucid_tree.proofs.rebuild.copy_defs.Given as goal

abbrev pub invariant-loop-def : goal.invariant-loop-def
invariant-loop-def l =
    (goal.iterator-loop-def).can_next l.def-iterator
    × (goal.iterator-loop-def).is_finite l.def-iterator
    × (before l.copies.items l.def-iterator ≡ l.fn.defs)
    × (into_iter_items l.right_sides ≡ rights l.def-iterator)
