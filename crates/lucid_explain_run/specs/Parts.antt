-- The parts of a tree, and the one at a place.
use Rattle.std.specs.Prelude.{ℕ, List, [], ◌∷◌, ◌++◌, Option, Bool, nat_eq}
use Rattle.std.specs.List.{find}
use Rattle.lucid_tree.specs.Tree.{PlainTree, form, name, call, block, PlainTrees, no_trees, tree, PlainDefs, no_defs, defines, defines_function, defines_current}

-- a tree's own place
abbrev pub own_place : PlainTree → ℕ
own_place (form at f es) = at
own_place (name at n) = at
own_place (call at n es) = at
own_place (block at e ds) = at

-- The tree itself and all that stands in it, each before its own parts: those of a form and the arguments of a call in order, of a block its subject
-- and then the right sides of its definitions.
abbrev mutual
  pub all_parts : PlainTree → List PlainTree
  all_parts (form at f es) = form at f es ∷ parts_in es
  all_parts (name at n) = name at n ∷ []
  all_parts (call at n es) = call at n es ∷ parts_in es
  all_parts (block at e ds) = block at e ds ∷ (all_parts e ++ parts_in_defs ds)

  pub parts_in : PlainTrees → List PlainTree
  parts_in no_trees = []
  parts_in (tree e es) = all_parts e ++ parts_in es

  pub parts_in_defs : PlainDefs → List PlainTree
  parts_in_defs no_defs = []
  parts_in_defs (defines at n e ds) = all_parts e ++ parts_in_defs ds
  parts_in_defs (defines_function at n ps ats e ds) = all_parts e ++ parts_in_defs ds
  parts_in_defs (defines_current at n e ds) = all_parts e ++ parts_in_defs ds

abbrev pub stands_at : (at : ℕ) → PlainTree → Bool
stands_at at e = nat_eq (own_place e) at

-- The part at a place: the first of these whose own place it is.
abbrev pub part_at : PlainTree → (at : ℕ) → Option PlainTree
part_at e at = find (stands_at at) (all_parts e)
