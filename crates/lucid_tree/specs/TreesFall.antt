-- No tree in a list has as many nodes as the list.
use Rattle.std.specs.Prelude.{◌≤◌, ◌+◌, ◌*◌, List, [], ◌∷◌}
use Rattle.std.proofs.Common.{arith}
use denote.Param.Weighed.{most}
use Rattle.lucid_tree.specs.Tree.{PlainTree}
use Rattle.lucid_tree.specs.Size.{nodes, nodes_in}
use Rattle.lucid_tree.specs.Lists.{trees_of}

pub most_le-nodes : (es : List PlainTree) → most (λ e. 2 * nodes e + 1) es ≤ 2 * nodes_in (trees_of es) + 1
most_le-nodes [] = omega arith
most_le-nodes (e ∷ es) = omega (arith, most_le-nodes es)
