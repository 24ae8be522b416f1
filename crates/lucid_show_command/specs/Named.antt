-- Which names a program has: those of its definitions, of their parameters, and of its inputs.
use Rattle.std.specs.Prelude.{ℕ, List, [], ◌∷◌, Bool, ◌||◌, Option, Some, None, if◌then◌else◌}
use Rattle.std.specs.List.{list_any}
use Rattle.lucid_value.specs.Plain.{same_bytes}
use Rattle.lucid_tree.specs.declared.tree.Def.{Def}
use Rattle.lucid_tree.specs.declared.tree.DefKind.{DefKind}
use Rattle.lucid_tree.specs.declared.tree.DefKind.TheVariants.{Plain, Function, Current}

-- it is one of these
unfoldable pub is_one_of : (names : List (List ℕ)) → List ℕ → Bool
is_one_of names x = list_any (λ (y : List ℕ). same_bytes y x) names

unfoldable pub parameters_of : DefKind → List (List ℕ)
parameters_of (Function names places right) = names
parameters_of (Plain right) = []
parameters_of (Current right) = []

-- the definition is of this name, or has a parameter of this name
unfoldable pub is_headed : Def → List ℕ → Bool
is_headed d x = same_bytes d.name x || is_one_of (parameters_of d.kind) x

unfoldable pub is_defined : List Def → List ℕ → Bool
is_defined ds x = list_any (λ (d : Def). is_headed d x) ds

-- a program with these definitions and these inputs has the name
unfoldable pub has_name : List Def → (inputs : List (List ℕ)) → List ℕ → Bool
has_name ds inputs x = is_defined ds x || is_one_of inputs x

-- the first of the names that it hasn't
abbrev pub first_unknown : List Def → (inputs names : List (List ℕ)) → Option (List ℕ)
first_unknown ds inputs [] = None
first_unknown ds inputs (x ∷ xs) = if has_name ds inputs x then first_unknown ds inputs xs else Some x
