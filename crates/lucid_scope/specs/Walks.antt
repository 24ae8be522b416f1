-- What a descent notes: a mark for each site of a tree, by the owners that names have there.
use Rattle.std.specs.Prelude.{◌≡◌, ℕ, Bool, List, [], ◌∷◌, ◌++◌, map, is_some, Option}
use Rattle.lucid_tree.specs.Tree.{PlainTree, form, name, call, block, PlainTrees, no_trees, tree, PlainDefs, no_defs, defines, defines_function, defines_current}
use Rattle.lucid_tree.specs.Env.{definition, param}
use Rattle.lucid_tree.specs.Size.{count}
use Rattle.lucid_tree.specs.declared.tree.DefKind.{DefKind}
use Rattle.lucid_tree.specs.declared.tree.DefKind.TheVariants.{Plain, Function, Current as CurrentKind}
use Rattle.lucid_scope.specs.Scope.{meaning}
use Rattle.lucid_scope.specs.Sites.{Site, named, called, again, again_if, repeats, no_names, also, Earlier}
use Rattle.lucid_scope.specs.Owners.{owner_of, look, or_outer, definition_owner, parameter_owner}
use Rattle.lucid_scope.specs.declared.table.Owner.{Owner}
use Rattle.lucid_scope.specs.declared.table.Table.{Table}
use Rattle.lucid_scope.specs.declared.marks.Mark.{Mark}
use Rattle.lucid_scope.specs.declared.marks.What.TheVariants.{Named, Called, Again}
use Rattle.lucid_scope.specs.declared.walk.Walk.{Walk}

-- a site as a mark
abbrev pub mark : Site → Mark
mark (named at x k) = record { at = at; what = Named x (owner_of (meaning x k)) }
mark (called at x n k) = record { at = at; what = Called x (owner_of (meaning x k)) n }
mark (again at) = record { at = at; what = Again }

-- the owner of each name
abbrev pub Owned : Type 0
Owned = List ℕ → Option Owner

-- those in a block, of those outside it
abbrev pub in_block_owned : PlainDefs → Owned → Owned
in_block_owned ds f n = or_outer (definition_owner (definition n ds)) (f n)

-- those in a function's right side
abbrev pub in_function_owned : (def : ℕ) → (names : List (List ℕ)) → Owned → Owned
in_function_owned d ns f n = or_outer (parameter_owner d (param n ns)) (f n)

-- The marks of a tree whose names have these owners: those of its sites.
abbrev mutual
  pub marks : Owned → PlainTree → List Mark
  marks f (form at h es) = marks_in f es
  marks f (name at x) = record { at = at; what = Named x (f x) } ∷ []
  marks f (call at x es) = record { at = at; what = Called x (f x) (count es) } ∷ marks_in f es
  marks f (block at e ds) = outside_marks f ds ++ (marks (in_block_owned ds f) e ++ inside_marks (in_block_owned ds f) no_names ds)

  pub marks_in : Owned → PlainTrees → List Mark
  marks_in f no_trees = []
  marks_in f (tree e es) = marks f e ++ marks_in f es

  -- those of the right sides of current definitions
  pub outside_marks : Owned → PlainDefs → List Mark
  outside_marks f no_defs = []
  outside_marks f (defines at x e ds) = outside_marks f ds
  outside_marks f (defines_function at x ns ats e ds) = outside_marks f ds
  outside_marks f (defines_current at x e ds) = marks f e ++ outside_marks f ds

  -- those of the other right sides, and of the names that are defined again
  pub inside_marks : Owned → Earlier → PlainDefs → List Mark
  inside_marks f earlier no_defs = []
  inside_marks f earlier (defines at x e ds) = map mark (again_if (earlier x) at) ++ (marks f e ++ inside_marks f (also x earlier) ds)
  inside_marks f earlier (defines_function at x ns ats e ds) =
      map mark (again_if (earlier x) at) ++ ((map mark (repeats no_names ns ats) ++ marks (in_function_owned at ns f) e) ++ inside_marks f (also x earlier) ds)
  inside_marks f earlier (defines_current at x e ds) = map mark (again_if (earlier x) at) ++ inside_marks f (also x earlier) ds

-- the marks of a definition's right side that stand outside the block
abbrev pub outer_marks : Owned → DefKind → List Mark
outer_marks f (Plain e) = []
outer_marks f (Function ps ats e) = []
outer_marks f (CurrentKind e) = marks f e

-- and those that stand inside it
abbrev pub inner_marks : Owned → (at : ℕ) → DefKind → List Mark
inner_marks f at (Plain e) = marks f e
inner_marks f at (Function ps ats e) = map mark (repeats no_names ps ats) ++ marks (in_function_owned at ps f) e
inner_marks f at (CurrentKind e) = []

-- the names that the table has, as a test
abbrev pub is_seen : Table → List ℕ → Bool
is_seen t n = is_some (look t n)

-- these marks are noted, and the names in scope stay
pub record Notes (start end : Walk) (found : List Mark) : Type 0 where
  pub names : end.table ≡ start.table
  pub marks_are : end.marks.items ≡ start.marks.items ++ found
