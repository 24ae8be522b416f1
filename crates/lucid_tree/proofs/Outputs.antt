-- A program has at most one output for a number of times.
use Rattle.lucid_tree.proofs.Common.{◌≡◌, ℕ, List, ◌++◌, refl, PlainTree, Elements, empty}
use Rattle.lucid_tree.specs.Output.{line, Output, no_lines, one_line_more}
use Rattle.lucid_tree.proofs.Growth.{meant-once}

pub output-once : (b : Elements) (p : PlainTree) (k : ℕ) (x y : List ℕ) → Output b p k x → Output b p k y → x ≡ y
output-once b p k x y no_lines no_lines = refl
output-once b p k x y (one_line_more {k = j} {bytes = xs} o v m e) (one_line_more {bytes = ys} q w n f) =
    λ i. output-once b p j xs ys o q i ++ line (meant-once b p empty j 0 v w m n i)
