-- How many trees a list has, and how many nodes trees and definitions have. Measures of recursions go by these.
use Rattle.std.specs.Prelude.{ℕ, ◌+◌}
use Rattle.lucid_tree.specs.Tree.{PlainTree, form, name, call, block, PlainTrees, no_trees, tree, PlainDefs, no_defs, defines, defines_function, defines_current}

-- the number of trees in a list
abbrev pub count : PlainTrees → ℕ
count no_trees = 0
count (tree e es) = count es + 1

-- the number of nodes; a block's are its own, its subject's and those of the right sides
abbrev mutual
  pub nodes : PlainTree → ℕ
  nodes (form at f es) = nodes_in es + 1
  nodes (name at n) = 1
  nodes (call at n es) = nodes_in es + 1
  nodes (block at e ds) = nodes e + nodes_in_defs ds + 1

  pub nodes_in : PlainTrees → ℕ
  nodes_in no_trees = 0
  nodes_in (tree e es) = nodes e + nodes_in es

  pub nodes_in_defs : PlainDefs → ℕ
  nodes_in_defs no_defs = 0
  nodes_in_defs (defines at x e ds) = nodes e + nodes_in_defs ds
  nodes_in_defs (defines_function at x ns ats e ds) = nodes e + nodes_in_defs ds
  nodes_in_defs (defines_current at x e ds) = nodes e + nodes_in_defs ds
