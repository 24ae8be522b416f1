-- Lists of trees as one plain form.
use Rattle.std.specs.Prelude.{List, [], ◌∷◌}
use Rattle.lucid_tree.specs.Tree.{PlainTree, PlainTrees, no_trees, tree}

-- the trees as one plain form
abbrev pub trees_of : List PlainTree → PlainTrees
trees_of [] = no_trees
trees_of (e ∷ es) = tree e (trees_of es)

-- and back
abbrev pub listed : PlainTrees → List PlainTree
listed no_trees = []
listed (tree e es) = e ∷ listed es
