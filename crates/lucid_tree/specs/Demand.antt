-- What an approximation demands: the elements that it consults, the entries that it refers to, the environments that it enters.
-- One walk, and three readings of it.
use Rattle.std.specs.Prelude.{ℕ, zero, suc, ◌+◌, List, [], ◌∷◌, ◌++◌, Option, Some, None}
use Rattle.std.specs.List.{filter_map}
use Rattle.lucid_value.specs.Plain.{PlainValue}
use Rattle.lucid_tree.specs.Tree.{PlainTree, form, name, call, block, PlainTrees, no_trees, tree}
use Rattle.lucid_tree.specs.Rows.{plan, trace}
use Rattle.lucid_tree.specs.Levels.{element_of, goes_to, nowhere, Elements, Given, nothing_held, below, Event, entered, deeper, look_up_of, reference_of, entered_of, valued_of}
use Rattle.lucid_tree.specs.Env.{Env, scope, frozen_at, Referent, Position, Aim, name_target, call_target}
use Rattle.lucid_tree.specs.Meaning.{value, part_at, val}

-- what a walk of trees meets, in order
abbrev pub Events : Type 0
Events = List (Event Referent Position Env)

-- the environment that a call makes
abbrev pub entry_of : Aim → Events
entry_of (element_of n j) = []
entry_of (goes_to k x u) = entered x.env ∷ []
entry_of nowhere = []

-- the environment that a block with a current definition makes
abbrev pub frozen_entry : Option ℕ → Env → Events
frozen_entry None f = []
frozen_entry (Some u) f = entered f ∷ []

-- The walk at m, where choices are those of the approximation m + d, and `deep` is what references meet.
abbrev mutual
  pub walk_at : Given Referent → (m d : ℕ) → (deep : Aim → ℕ → Events) → PlainTree → Env → (time space : ℕ) → Events
  walk_at g m d deep (form at f es) env t s =
      trace m (plan (m + d) f t s) (λ i u r. part_at (m + d) (below value g (m + d)) es env i u r) (λ i u r. walk_part g m d deep es env i u r)
  walk_at g m d deep (name at n) env t s = deep (name_target n env t) s
  walk_at g m d deep (call at n es) env t s =
      entry_of (call_target at n es env env t) ++ deep (call_target at n es env env t) s
  walk_at g m d deep (block at e ds) env t s =
      frozen_entry (frozen_at ds t) (scope ds (frozen_at ds t) env) ++ walk_at g m d deep e (scope ds (frozen_at ds t) env) t s

  -- that of a part, by its number
  pub walk_part : Given Referent → (m d : ℕ) → (deep : Aim → ℕ → Events) → PlainTrees → Env → (part time space : ℕ) → Events
  walk_part g m d deep no_trees env i t s = []
  walk_part g m d deep (tree e es) env zero t s = walk_at g m d deep e env t s
  walk_part g m d deep (tree e es) env (suc i) t s = walk_part g m d deep es env i t s

-- the walk from a position
abbrev pub walk : Given Referent → (m d : ℕ) → (deep : Aim → ℕ → Events) → Position → (time space : ℕ) → Events
walk g m d deep x t s = walk_at g m d deep x.tree x.env t s

-- All that the walk meets on paths of at most m references, where the approximation m + d decides the choices.
abbrev pub seen : Elements → (m d : ℕ) → PlainTree → Env → (time space : ℕ) → Events
seen b m d e env t s =
    walk_at (nothing_held b) m d (deeper (walk (nothing_held b)) m d) e env t s

-- The pairs of a free name and an index that are looked up.
abbrev pub consults : Elements → (m d : ℕ) → PlainTree → Env → (time space : ℕ) → List (List ℕ × ℕ)
consults b m d e env t s = filter_map look_up_of (seen b m d e env t s)

-- What the references of names that aren't free refer to, each at its space.
abbrev pub refers : Elements → (m d : ℕ) → PlainTree → Env → (time space : ℕ) → List (Referent × ℕ)
refers b m d e env t s = filter_map reference_of (seen b m d e env t s)

-- What the references of the m-th approximation itself refer to, each at its space and with its value at m.
abbrev pub refers_with_values : Elements → ℕ → PlainTree → Env → (time space : ℕ) → List (Referent × ℕ × PlainValue)
refers_with_values b m e env t s = filter_map (valued_of (λ x u r. val b m x.tree x.env u r)) (seen b m 0 e env t s)

-- The environments that calls and blocks with a current definition make.
abbrev pub enters : Elements → (m d : ℕ) → PlainTree → Env → (time space : ℕ) → List Env
enters b m d e env t s = filter_map entered_of (seen b m d e env t s)
