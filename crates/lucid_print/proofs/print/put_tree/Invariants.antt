use Rattle.lucid_print.proofs.Common.{◌≡◌, ◌++◌, source, steps_left}
use Rattle.lucid_print.specs.Pieces.{left}
use Rattle.lucid_print.proofs.print.put_tree.Given as goal

-- what is written and what is left are the tree's text
abbrev pub invariant-loop-piece : goal.invariant-loop-piece
invariant-loop-piece l = l.to.items ++ left l.pieces ≡ l.fn.to.items ++ source l.tree

abbrev pub decreases-loop-piece : goal.decreases-loop-piece
decreases-loop-piece l = steps_left l.pieces
