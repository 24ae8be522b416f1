-- The pieces that the nodes of a tree's table come from.
use Rattle.std.specs.Prelude.{Bool, List, [], ◌∷◌, ◌++◌, map, if◌then◌else◌}
use Rattle.std.specs.Borrow.{Bor}
use Rattle.lucid_tree.specs.Tree.{PlainTree, form, name, call, block, PlainTrees, no_trees, tree, PlainDefs, no_defs, defines, defines_function, defines_current}
use Rattle.lucid_compile.specs.Static.{freezes}
use Rattle.lucid_compile.specs.Notes.{noted_tree}
use Rattle.lucid_compile.specs.Settled.{pieces}

-- The piece of each node, by the nodes' numbers. A node means its piece: `NodesMeanTheirPieces` of lucid_compile.
abbrev pub node_pieces : PlainTree → List PlainTree
node_pieces e = map (λ n. noted_tree n.kind) (pieces e)

-- what lent pieces are
abbrev pub lent : List (Bor PlainTree) → List PlainTree
lent found = map (λ (piece : Bor PlainTree). piece.now) found

-- what the code finds, in order: the same, without what is in scope

abbrev pub itself_if : Bool → PlainTree → List PlainTree
itself_if b e = if b then e ∷ [] else []

abbrev mutual
  pub found : PlainTree → List PlainTree
  found (form at f es) = found_in es ++ form at f es ∷ []
  found (name at x) = name at x ∷ []
  found (call at x es) = found_in es ++ call at x es ∷ []
  found (block at e ds) = found e ++ (found_in_defs ds ++ itself_if (freezes ds) (block at e ds))

  pub found_in : PlainTrees → List PlainTree
  found_in no_trees = []
  found_in (tree e es) = found e ++ found_in es

  pub found_in_defs : PlainDefs → List PlainTree
  found_in_defs no_defs = []
  found_in_defs (defines at x e ds) = found e ++ found_in_defs ds
  found_in_defs (defines_function at x ns ats e ds) = found e ++ found_in_defs ds
  found_in_defs (defines_current at x e ds) = found e ++ found_in_defs ds
