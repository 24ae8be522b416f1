-- Depth, places, and the trees that are well made.
use Rattle.std.specs.Prelude.{ℕ, ◌+◌, ◌<◌, max, Bool, true, List, [], ◌∷◌, ◌++◌, length, ◌&&◌, nat_eq, nat_lt, IsTrue}
use Rattle.std.proofs.Props.{props}
use Rattle.lucid_ops.specs.Arity.{arity}
use Rattle.lucid_tree.specs.Tree.{Head, apply, PlainTree, form, name, call, block, PlainTrees, no_trees, tree, PlainDefs, no_defs, defines, defines_function, defines_current}
use Rattle.lucid_tree.specs.Size.{count}
use Rattle.lucid_tree.specs.Members.{AllDiffer-prop}
pub use Rattle.lucid_tree.specs.Members.{In, AllDiffer}

-- The root has depth 1, and a part of a node has one more than the node; the parts of a block are its subject and the right sides
-- of its definitions. The depth of a tree is the greatest depth of a node.
abbrev mutual
  pub depth : PlainTree → ℕ
  depth (form at f es) = depths es + 1
  depth (name at n) = 1
  depth (call at n es) = depths es + 1
  depth (block at e ds) = max (depth e) (depths_in_defs ds) + 1

  pub depths : PlainTrees → ℕ
  depths no_trees = 0
  depths (tree e es) = max (depth e) (depths es)

  pub depths_in_defs : PlainDefs → ℕ
  depths_in_defs no_defs = 0
  depths_in_defs (defines at x e ds) = max (depth e) (depths_in_defs ds)
  depths_in_defs (defines_function at x ns ats e ds) = max (depth e) (depths_in_defs ds)
  depths_in_defs (defines_current at x e ds) = max (depth e) (depths_in_defs ds)

-- No program's tree is deeper.
abbrev pub most_tree_depth : ℕ
most_tree_depth = 400

-- The places of a tree's nodes, definitions and parameters.
abbrev mutual
  pub places : PlainTree → List ℕ
  places (form at f es) = at ∷ places_in es
  places (name at n) = at ∷ []
  places (call at n es) = at ∷ places_in es
  places (block at e ds) = at ∷ (places e ++ places_in_defs ds)

  pub places_in : PlainTrees → List ℕ
  places_in no_trees = []
  places_in (tree e es) = places e ++ places_in es

  pub places_in_defs : PlainDefs → List ℕ
  places_in_defs no_defs = []
  places_in_defs (defines at x e ds) = at ∷ (places e ++ places_in_defs ds)
  places_in_defs (defines_function at x ns ats e ds) = at ∷ (ats ++ places e ++ places_in_defs ds)
  places_in_defs (defines_current at x e ds) = at ∷ (places e ++ places_in_defs ds)

-- a data operator has as many parts as its arity says; the number in its head is that of its parts
abbrev pub fits_arity : Head → PlainTrees → Bool
fits_arity (apply op n) es = nat_eq (count es) (arity op)
fits_arity _ es = true

-- Every data operator has its number of arguments; every function has a parameter, and as many places as parameters.
abbrev mutual
  pub is_shaped : PlainTree → Bool
  is_shaped (form at f es) = fits_arity f es && are_shaped es
  is_shaped (name at n) = true
  is_shaped (call at n es) = are_shaped es
  is_shaped (block at e ds) = is_shaped e && defs_are_shaped ds

  pub are_shaped : PlainTrees → Bool
  are_shaped no_trees = true
  are_shaped (tree e es) = is_shaped e && are_shaped es

  pub defs_are_shaped : PlainDefs → Bool
  defs_are_shaped no_defs = true
  defs_are_shaped (defines at x e ds) = is_shaped e && defs_are_shaped ds
  defs_are_shaped (defines_function at x ns ats e ds) =
      nat_lt 0 (length ns) && nat_eq (length ats) (length ns) && is_shaped e && defs_are_shaped ds
  defs_are_shaped (defines_current at x e ds) = is_shaped e && defs_are_shaped ds

-- The tree is well made: its operators and functions are shaped, no two of its nodes, definitions and parameters have the same
-- place, and there are fewer than 2^31 of these together.
pub record IsWellMade (e : PlainTree) : Type 0 where
  pub shaped : IsTrue (is_shaped e)
  pub placed : AllDiffer (places e)
  pub few : length (places e) < 2147483648

-- At most one proof says so.
pub IsWellMade-prop : (e : PlainTree) → IsProp (IsWellMade e)
IsWellMade-prop e = hlevel (props, AllDiffer-prop (places e))
