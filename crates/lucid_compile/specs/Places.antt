-- The places of trees.
use Rattle.std.specs.Prelude.{ℕ}
use Rattle.lucid_tree.specs.Tree.{PlainTree, form, name, call, block, PlainTrees, no_trees, tree}

-- a tree's own place
abbrev pub place_of : PlainTree → ℕ
place_of (form at f es) = at
place_of (name at x) = at
place_of (call at x es) = at
place_of (block at e ds) = at

-- the place of the first of some trees; a call place is told by that of its first actual
abbrev pub first_place : PlainTrees → ℕ
first_place no_trees = 0
first_place (tree e es) = place_of e
