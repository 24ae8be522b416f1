-- The parts of a node, in order: those of a form, the arguments of a call, the subject of a block and its right sides.
use Rattle.std.specs.Prelude.{List, [], ◌∷◌}
use Rattle.lucid_tree.specs.Tree.{PlainTree, form, name, call, block, PlainTrees, no_trees}
use Rattle.lucid_tree.specs.Lists.{listed}
use Rattle.lucid_tree.specs.Rights.{rights}

abbrev pub parts_of : PlainTree → List PlainTree
parts_of (form at f es) = listed es
parts_of (name at n) = []
parts_of (call at n es) = listed es
parts_of (block at e ds) = e ∷ rights ds

-- those that are no part of a block
abbrev pub operands : PlainTree → PlainTrees
operands (form at f es) = es
operands (name at n) = no_trees
operands (call at n es) = es
operands (block at e ds) = no_trees
