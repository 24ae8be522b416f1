-- The places of a tree at which a name stands, each with what is in scope there; and the later ones of two definitions, or of
-- two parameters, of one name.
use Rattle.std.specs.Prelude.{ℕ, Bool, false, List, [], ◌∷◌, ◌++◌, ◌||◌, if◌then◌else◌}
use Rattle.lucid_tree.specs.Tree.{PlainTree, form, name, call, block, PlainTrees, no_trees, tree, PlainDefs, no_defs, defines, defines_function, defines_current}
use Rattle.lucid_tree.specs.Env.{same_name}
use Rattle.lucid_tree.specs.Size.{count}
use Rattle.lucid_scope.specs.Scope.{Static, in_block, in_function}

-- A name without arguments; a call, with the number of its arguments; or a definition or parameter whose name an earlier one of
-- the same block or of the same list has.
pub data Site : Type 0 where
  named : (at : ℕ) → (name : List ℕ) → (home : Static) → Site
  called : (at : ℕ) → (name : List ℕ) → (given : ℕ) → (home : Static) → Site
  again : (at : ℕ) → Site

abbrev pub site_at : Site → ℕ
site_at (named at x k) = at
site_at (called at x n k) = at
site_at (again at) = at

-- the names that stand earlier, by a test, and one more
abbrev pub Earlier : Type 0
Earlier = List ℕ → Bool

abbrev pub also : List ℕ → Earlier → Earlier
also x earlier n = same_name n x || earlier n

-- none
abbrev pub no_names : Earlier
no_names n = false

abbrev pub again_if : Bool → (at : ℕ) → List Site
again_if b at = if b then again at ∷ [] else []

-- the names of a list that earlier ones repeat
abbrev pub repeats : Earlier → (names : List (List ℕ)) → (places : List ℕ) → List Site
repeats earlier [] ats = []
repeats earlier (n ∷ ns) [] = []
repeats earlier (n ∷ ns) (at ∷ ats) = again_if (earlier n) at ++ repeats (also n earlier) ns ats

-- The sites of a tree. A block opens a scope for its subject and for the right sides of its plain and function definitions; the
-- right side of a current definition stands in the scope outside; and a function's parameters are seen in its right side alone.
abbrev mutual
  pub sites : Static → PlainTree → List Site
  sites k (form at f es) = sites_in k es
  sites k (name at x) = named at x k ∷ []
  sites k (call at x es) = called at x (count es) k ∷ sites_in k es
  sites k (block at e ds) = outside_sites k ds ++ (sites (in_block ds k) e ++ inside_sites (in_block ds k) no_names ds)

  pub sites_in : Static → PlainTrees → List Site
  sites_in k no_trees = []
  sites_in k (tree e es) = sites k e ++ sites_in k es

  -- those of the right sides of current definitions
  pub outside_sites : Static → PlainDefs → List Site
  outside_sites k no_defs = []
  outside_sites k (defines at x e ds) = outside_sites k ds
  outside_sites k (defines_function at x ns ats e ds) = outside_sites k ds
  outside_sites k (defines_current at x e ds) = sites k e ++ outside_sites k ds

  -- those of the other right sides, and the names that are defined again
  pub inside_sites : Static → Earlier → PlainDefs → List Site
  inside_sites k earlier no_defs = []
  inside_sites k earlier (defines at x e ds) = again_if (earlier x) at ++ (sites k e ++ inside_sites k (also x earlier) ds)
  inside_sites k earlier (defines_function at x ns ats e ds) =
      again_if (earlier x) at ++ ((repeats no_names ns ats ++ sites (in_function at ns ats k) e) ++ inside_sites k (also x earlier) ds)
  inside_sites k earlier (defines_current at x e ds) = again_if (earlier x) at ++ inside_sites k (also x earlier) ds
