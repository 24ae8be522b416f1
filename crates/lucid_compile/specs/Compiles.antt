-- What a table has for a tree that was compiled: a row for each definition, parameter and call in it. No order of rows is said, and
-- no choice of numbers.
use Rattle.std.specs.Prelude.{◌≡◌, ℕ, ◌<◌, length, Bool, true, false, List, Option, Some, None, get_or}
use Rattle.std.specs.Option.{option_map}
use Rattle.lucid_tree.specs.Tree.{PlainTree, form, name, call, block, PlainTrees, no_trees, tree, PlainDefs, no_defs, defines, defines_function, defines_current}
use Rattle.lucid_tree.specs.Env.{Env, empty, scope, args, tree_at}
use Rattle.lucid_equations.specs.Nodes.{Equations, PlainEntry, plain_entry, called_entry, current_entry, parameter_entry}
use Rattle.lucid_scope.specs.Scope.{Meaning, free, plain_name, parameter, current_name, function, meaning}
use Rattle.lucid_compile.specs.Static.{Static, outermost, in_block, in_body, freezes, Numbers, Source, node_for, static_of}

module _ (nu : Numbers) (so : Source) (p : Equations) where
  -- the row of what stands at a place, and the way back from its number
  abbrev pub HasRow : (at : ℕ) → (home : Static) → PlainEntry → Type 0
  HasRow at k entry = (p.entry (nu.name at) ≡ Some entry) × (so.origin (nu.name at) ≡ record { at = at; home = k })

  -- a row for each parameter
  abbrev pub Parameters : (names : List (List ℕ)) → (places : List ℕ) → (home : Static) → Type 0
  Parameters ns ats k = (i : ℕ) → i < length ns → HasRow (get_or ats i 0) k (parameter_entry i)

  -- the actuals of a call place, and the way back from its number
  abbrev pub Actuals : Static → PlainTrees → Type 0
  Actuals k es = ((i : ℕ) → p.actual (nu.place es) i ≡ option_map (λ e. node_for nu k e) (tree_at es i)) × (so.site (nu.place es) ≡ record { actuals = es; caller = k })

  -- the row of a call of a function, whose body is the function's right side
  abbrev pub Callable : (at : ℕ) → Meaning → Type 0
  Callable at free = Unit {0}
  Callable at (plain_name d e k) = Unit {0}
  Callable at (parameter d i p k) = Unit {0}
  Callable at (current_name d e k o) = Unit {0}
  Callable at (function d ns ats e k) = HasRow at (in_body ns ats k) (called_entry (node_for nu (in_body ns ats k) e))

  -- the rows of all definitions, parameters and calls in a tree, and the way back from each place
  abbrev mutual
    pub Kept : Static → PlainTree → Type 0
    Kept k (form at f es) = AllKept k es × (so.scope_at at ≡ k)
    Kept k (name at x) = so.scope_at at ≡ k
    Kept k (call at x es) = Callable at (meaning x k) × Actuals k es × AllKept k es × (so.scope_at at ≡ k)
    Kept k (block at e ds) = Kept (in_block ds k) e × DefsKept (in_block ds k) k ds × (so.scope_at at ≡ k)

    pub AllKept : Static → PlainTrees → Type 0
    AllKept k no_trees = Unit {0}
    AllKept k (tree e es) = Kept k e × AllKept k es

    pub DefsKept : (inside outside : Static) → PlainDefs → Type 0
    DefsKept k o no_defs = Unit {0}
    DefsKept k o (defines at x e ds) = HasRow at k (plain_entry (node_for nu k e)) × Kept k e × DefsKept k o ds
    DefsKept k o (defines_function at x ns ats e ds) = Parameters ns ats (in_body ns ats k) × Kept (in_body ns ats k) e × DefsKept k o ds
    DefsKept k o (defines_current at x e ds) = HasRow at k (current_entry (node_for nu o e)) × Kept o e × DefsKept k o ds

  -- a frozen time exactly where the block freezes
  abbrev pub Shape : Option ℕ → Bool → Type 0
  Shape None false = Unit {0}
  Shape (Some t) true = Unit {0}
  Shape None true = ⊥
  Shape (Some t) false = ⊥

  -- the environments that are met: the table has all that is in scope
  abbrev pub Good : Env → Type 0
  Good empty = Unit {0}
  Good (scope ds z env) = Shape z (freezes ds) × DefsKept (in_block ds (static_of env)) (static_of env) ds × Good env
  Good (args ns ats es caller env) =
      Parameters ns ats (in_body ns ats (static_of env)) × Actuals (static_of caller) es × AllKept (static_of caller) es × Good caller × Good env

-- The table is the tree compiled.
pub record Compiles (nu : Numbers) (so : Source) (p : Equations) (e : PlainTree) : Type 0 where
  pub root : p.root ≡ node_for nu outermost e
  pub kept : Kept nu so p outermost e
