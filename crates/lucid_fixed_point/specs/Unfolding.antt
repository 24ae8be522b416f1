-- Rewritings of programs: a name by its right side, and `first` of `fby`. A name may be unfolded at any number of places of its scope, where no
-- block and no function between catches a name.
use Rattle.std.specs.Prelude.{◌≡◌, ℕ, Bool, true, false, List, [], ◌∷◌, Option, Some, None, if◌then◌else◌, ◌↔◌}
use Rattle.std.specs.Option.{is_some}
use Rattle.lucid_value.specs.Plain.{PlainValue}
use Rattle.lucid_tree.specs.Tree.{PlainTree, form, name, call, block, PlainTrees, no_trees, tree, PlainDefs, no_defs, defines, defines_function, defines_current, first_of, fby_of}
use Rattle.lucid_tree.specs.Levels.{Elements}
use Rattle.lucid_tree.specs.Env.{Env, same_name, param, definition, function_def}
use Rattle.lucid_fixed_point.specs.Rules.{Derives}
use Rattle.lucid_fixed_point.specs.Contexts.{Context, place, form_of, name_of, call_of, block_of, Contexts, no_contexts, context, DefContexts, no_definitions, is_plain, is_function, is_current, fill, fill_definitions}

-- Some names, as a test.
abbrev pub Names : Type 0
Names = List ℕ → Bool

abbrev mutual
  -- none of these names is used in the tree
  pub Avoids : Names → PlainTree → Type 0
  Avoids ns (form at f es) = AllAvoid ns es
  Avoids ns (name at n) = ns n ≡ false
  Avoids ns (call at n es) = (ns n ≡ false) × AllAvoid ns es
  Avoids ns (block at e ds) = Avoids ns e × InsideAvoids ns ds

  pub AllAvoid : Names → PlainTrees → Type 0
  AllAvoid ns no_trees = Unit {0}
  AllAvoid ns (tree e es) = Avoids ns e × AllAvoid ns es

  pub InsideAvoids : Names → PlainDefs → Type 0
  InsideAvoids ns no_defs = Unit {0}
  InsideAvoids ns (defines at x e ds) = Avoids ns e × InsideAvoids ns ds
  InsideAvoids ns (defines_function at x ps ats e ds) = Avoids ns e × InsideAvoids ns ds
  InsideAvoids ns (defines_current at x e ds) = Avoids ns e × InsideAvoids ns ds

-- the parameters of a function, and the names that a block defines
abbrev pub parameters : List (List ℕ) → Names
parameters ps n = is_some (param n ps)

abbrev pub defined_in : DefContexts → Names
defined_in no_definitions n = false
defined_in (is_plain at x e ds) n = if same_name n x then true else defined_in ds n
defined_in (is_function at x ps ats e ds) n = if same_name n x then true else defined_in ds n
defined_in (is_current at x e ds) n = if same_name n x then true else defined_in ds n

abbrev mutual
  -- No block and no function of the context catches a name of the tree.
  pub Clear : PlainTree → Context → Type 0
  Clear x place = Unit {0}
  Clear x (form_of at f es) = AllClear x es
  Clear x (name_of at n) = Unit {0}
  Clear x (call_of at n es) = AllClear x es
  Clear x (block_of at e ds) = Avoids (defined_in ds) x × Clear x e × InsideClear x ds

  pub AllClear : PlainTree → Contexts → Type 0
  AllClear x no_contexts = Unit {0}
  AllClear x (context e es) = Clear x e × AllClear x es

  pub InsideClear : PlainTree → DefContexts → Type 0
  InsideClear x no_definitions = Unit {0}
  InsideClear x (is_plain at n e ds) = Clear x e × InsideClear x ds
  InsideClear x (is_function at n ps ats e ds) = Avoids (parameters ps) x × Clear x e × InsideClear x ds
  InsideClear x (is_current at n e ds) = Clear x e × InsideClear x ds

-- the right side of the name, where its first definition is a plain one
abbrev pub right_side : List ℕ → DefContexts → Option Context
right_side n no_definitions = None
right_side n (is_plain at x e ds) = if same_name n x then Some e else right_side n ds
right_side n (is_function at x ps ats e ds) = if same_name n x then None else right_side n ds
right_side n (is_current at x e ds) = if same_name n x then None else right_side n ds

abbrev mutual
  -- a context without places
  pub IsPlaceless : Context → Type 0
  IsPlaceless place = ⊥
  IsPlaceless (form_of at f es) = ArePlaceless es
  IsPlaceless (name_of at n) = Unit {0}
  IsPlaceless (call_of at n es) = ArePlaceless es
  IsPlaceless (block_of at e ds) = IsPlaceless e × InsidePlaceless ds

  pub ArePlaceless : Contexts → Type 0
  ArePlaceless no_contexts = Unit {0}
  ArePlaceless (context e es) = IsPlaceless e × ArePlaceless es

  pub InsidePlaceless : DefContexts → Type 0
  InsidePlaceless no_definitions = Unit {0}
  InsidePlaceless (is_plain at n e ds) = IsPlaceless e × InsidePlaceless ds
  InsidePlaceless (is_function at n ps ats e ds) = IsPlaceless e × InsidePlaceless ds
  InsidePlaceless (is_current at n e ds) = IsPlaceless e × InsidePlaceless ds

-- The right sides of current definitions have no places: they stand outside the block's scope.
abbrev pub PlacesAreInside : DefContexts → Type 0
PlacesAreInside no_definitions = Unit {0}
PlacesAreInside (is_plain at x e ds) = PlacesAreInside ds
PlacesAreInside (is_function at x ps ats e ds) = PlacesAreInside ds
PlacesAreInside (is_current at x e ds) = IsPlaceless e × PlacesAreInside ds

-- In a block, at some places, a name that the block defines, and at these places its right side as it was; no name is caught.
pub record Unfolds (subject : Context) (ds : DefContexts) (n : List ℕ) (right : Context) (at : ℕ) : Type 0 where
  pub is_right_side : right_side n ds ≡ Some right
  pub inside : PlacesAreInside ds
  pub name_is_free : Clear (name at n) subject × InsideClear (name at n) ds
  pub right_is_free : Clear (fill right (name at n)) subject × InsideClear (fill right (name at n)) ds

-- The two blocks may be exchanged in each program.
abbrev pub NamesUnfold : Type 0
NamesUnfold =
    (subject : Context) (ds : DefContexts) (n : List ℕ) (right : Context) (at i j : ℕ) → Unfolds subject ds n right at
    → (c : Context) (b : Elements) (env : Env) (t s : ℕ) (v : PlainValue)
    → Derives b (fill c (block i (fill subject (name at n)) (fill_definitions ds (name at n)))) env t s v
    ↔ Derives b (fill c (block j (fill subject (fill right (name at n))) (fill_definitions ds (fill right (name at n))))) env t s v

-- `first` undoes `fby`, in each program.
abbrev pub FirstOfFbyInPrograms : Type 0
FirstOfFbyInPrograms =
    (x y : PlainTree) (i j k : ℕ) (c : Context) (b : Elements) (env : Env) (t s : ℕ) (v : PlainValue)
    → Derives b (fill c (first_of i (fby_of j x y))) env t s v ↔ Derives b (fill c (first_of k x)) env t s v

-- Definitions of parameters by the arguments of a call, one for each.
abbrev pub bound : List (List ℕ) → PlainTrees → PlainDefs
bound [] es = no_defs
bound (p ∷ ps) no_trees = no_defs
bound (p ∷ ps) (tree e es) = defines 0 p e (bound ps es)

abbrev pub AsMany : List (List ℕ) → PlainTrees → Type 0
AsMany [] no_trees = Unit {0}
AsMany [] (tree e es) = ⊥
AsMany (p ∷ ps) no_trees = ⊥
AsMany (p ∷ ps) (tree e es) = AsMany ps es

-- A call in a block that defines the function, at some places of its subject, by the function's right side in a block of the arguments: as many
-- as there are parameters, and no parameter is used in them.
pub record CallUnfolds (subject : Context) (ds : PlainDefs) (n : List ℕ) (ps : List (List ℕ)) (right : PlainTree) (at : ℕ) (es : PlainTrees) : Type 0 where
  pub place_of_name : ℕ
  pub places : List ℕ
  pub is_function : definition n ds ≡ function_def place_of_name ps places right
  pub as_many : AsMany ps es
  pub arguments_avoid : AllAvoid (parameters ps) es
  pub call_is_free : Clear (call at n es) subject
  pub right_is_free : Clear (block at right (bound ps es)) subject

abbrev pub CallsUnfold : Type 0
CallsUnfold =
    (subject : Context) (ds : PlainDefs) (n : List ℕ) (ps : List (List ℕ)) (right : PlainTree) (at i j : ℕ) (es : PlainTrees)
    → CallUnfolds subject ds n ps right at es → (c : Context) (b : Elements) (env : Env) (t s : ℕ) (v : PlainValue)
    → Derives b (fill c (block i (fill subject (call at n es)) ds)) env t s v
    ↔ Derives b (fill c (block j (fill subject (block at right (bound ps es))) ds)) env t s v
