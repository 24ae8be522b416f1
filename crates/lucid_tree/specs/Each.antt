-- What each form of a tree, with its parts, has; wherever it stands in the tree.
use Rattle.lucid_tree.specs.Tree.{Head, PlainTree, form, name, call, block, PlainTrees, no_trees, tree, PlainDefs, no_defs, defines, defines_function, defines_current}

-- Each form of the tree has P.
abbrev mutual
  pub EachForm : (Head → PlainTrees → Type 0) → PlainTree → Type 0
  EachForm P (form at f es) = P f es × EachFormIn P es
  EachForm P (name at n) = Unit {0}
  EachForm P (call at n es) = EachFormIn P es
  EachForm P (block at e ds) = EachForm P e × EachFormInDefs P ds

  -- each of these trees
  pub EachFormIn : (Head → PlainTrees → Type 0) → PlainTrees → Type 0
  EachFormIn P no_trees = Unit {0}
  EachFormIn P (tree e es) = EachForm P e × EachFormIn P es

  -- each of the right sides
  pub EachFormInDefs : (Head → PlainTrees → Type 0) → PlainDefs → Type 0
  EachFormInDefs P no_defs = Unit {0}
  EachFormInDefs P (defines at x e ds) = EachForm P e × EachFormInDefs P ds
  EachFormInDefs P (defines_function at x ns ats e ds) = EachForm P e × EachFormInDefs P ds
  EachFormInDefs P (defines_current at x e ds) = EachForm P e × EachFormInDefs P ds
