-- The definitions in scope at a place of a tree: those of an inner block before those of an outer one, and those of a block in order. And all of them.
use Rattle.std.specs.Prelude.{ℕ, List, [], ◌∷◌, ◌++◌, map, Bool, false, ◌||◌, nat_eq, if◌then◌else◌}
use Rattle.std.specs.Borrow.{Bor}
use Rattle.std.specs.List.{list_any}
use Rattle.lucid_tree.specs.Tree.{PlainTree, form, name, call, block, PlainTrees, no_trees, tree, PlainDefs, no_defs, defines, defines_function, defines_current}
use Rattle.lucid_tree.specs.declared.tree.Def.{Def}
use Rattle.lucid_tree.specs.declared.tree.DefKind.{DefKind}
use Rattle.lucid_tree.specs.declared.tree.DefKind.TheVariants.{Plain, Function, Current}

-- what lent definitions are
abbrev pub lent : List (Bor Def) → List Def
lent found = map (λ (d : Bor Def). d.now) found

-- a definition at a place
abbrev pub one_of : (at : ℕ) → (name : List ℕ) → DefKind → Def
one_of at n kind = record { at = at; name = n; kind = kind }

-- the definitions of a block as a list
abbrev pub listed : PlainDefs → List Def
listed no_defs = []
listed (defines at n right more) = one_of at n (Plain right) ∷ listed more
listed (defines_function at n names places right more) = one_of at n (Function names places right) ∷ listed more
listed (defines_current at n right more) = one_of at n (Current right) ∷ listed more

-- a definition's own name stands at the place, or a parameter of it
abbrev pub is_headed : (at : ℕ) → (here : ℕ) → DefKind → Bool
is_headed at here (Function names places right) = nat_eq here at || list_any (λ place. nat_eq place at) places
is_headed at here kind = nat_eq here at

-- something of the tree stands at the place
abbrev mutual
  pub has_place : (at : ℕ) → PlainTree → Bool
  has_place at (form here head parts) = nat_eq here at || has_place_in at parts
  has_place at (name here n) = nat_eq here at
  has_place at (call here n args) = nat_eq here at || has_place_in at args
  has_place at (block here subject defs) = nat_eq here at || (has_place at subject || has_place_in_defs at defs)

  pub has_place_in : (at : ℕ) → PlainTrees → Bool
  has_place_in at no_trees = false
  has_place_in at (tree one more) = has_place at one || has_place_in at more

  pub has_place_in_defs : (at : ℕ) → PlainDefs → Bool
  has_place_in_defs at no_defs = false
  has_place_in_defs at (defines here n right more) = (is_headed at here (Plain right) || has_place at right) || has_place_in_defs at more
  has_place_in_defs at (defines_function here n names places right more) =
      (is_headed at here (Function names places right) || has_place at right) || has_place_in_defs at more
  has_place_in_defs at (defines_current here n right more) = (is_headed at here (Current right) || has_place at right) || has_place_in_defs at more

-- A block's definitions are in scope in its subject and in the right sides of its plain and function definitions; the right side of a current
-- definition stands in the scope outside. They are in scope too where their names stand, and their parameters.
abbrev pub sees_block : (at : ℕ) → (here : ℕ) → DefKind → (inside : Bool) → Bool
sees_block at here (Current right) inside = nat_eq here at
sees_block at here kind inside = is_headed at here kind || inside

abbrev pub listed_if : Bool → PlainDefs → List Def
listed_if sees defs = if sees then listed defs else []

abbrev mutual
  pub in_scope : (at : ℕ) → PlainTree → List Def
  in_scope at (form here head parts) = in_scope_in at parts
  in_scope at (name here n) = []
  in_scope at (call here n args) = in_scope_in at args
  in_scope at (block here subject defs) = in_scope at subject ++ (listed_if (has_place at subject) defs ++ in_scope_defs at defs defs)

  pub in_scope_in : (at : ℕ) → PlainTrees → List Def
  in_scope_in at no_trees = []
  in_scope_in at (tree one more) = in_scope at one ++ in_scope_in at more

  -- of the right sides of those definitions of a whole block
  pub in_scope_defs : (at : ℕ) → (whole : PlainDefs) → PlainDefs → List Def
  in_scope_defs at whole no_defs = []
  in_scope_defs at whole (defines here n right more) =
      in_scope at right ++ (listed_if (sees_block at here (Plain right) (has_place at right)) whole ++ in_scope_defs at whole more)
  in_scope_defs at whole (defines_function here n names places right more) =
      in_scope at right ++ (listed_if (sees_block at here (Function names places right) (has_place at right)) whole ++ in_scope_defs at whole more)
  in_scope_defs at whole (defines_current here n right more) =
      in_scope at right ++ (listed_if (sees_block at here (Current right) (has_place at right)) whole ++ in_scope_defs at whole more)

-- all definitions of a tree, in scope or not
abbrev mutual
  pub all_defs : PlainTree → List Def
  all_defs (form here head parts) = all_defs_in parts
  all_defs (name here n) = []
  all_defs (call here n args) = all_defs_in args
  all_defs (block here subject defs) = all_defs subject ++ (listed defs ++ all_defs_under defs)

  pub all_defs_in : PlainTrees → List Def
  all_defs_in no_trees = []
  all_defs_in (tree one more) = all_defs one ++ all_defs_in more

  -- those in the right sides of definitions
  pub all_defs_under : PlainDefs → List Def
  all_defs_under no_defs = []
  all_defs_under (defines here n right more) = all_defs right ++ all_defs_under more
  all_defs_under (defines_function here n names places right more) = all_defs right ++ all_defs_under more
  all_defs_under (defines_current here n right more) = all_defs right ++ all_defs_under more
