-- What the table of names has for each name.
use Rattle.std.specs.Prelude.{ℕ, List, [], ◌∷◌, length, Option, Some, None, if◌then◌else◌}
use Rattle.std.specs.Map.{lookup}
use Rattle.lucid_tree.specs.Env.{Found, absent, plain_def, function_def, current_def, same_name}
use Rattle.lucid_scope.specs.Scope.{Meaning, free, plain_name, parameter, current_name, function}
use Rattle.lucid_scope.specs.declared.table.Owner.{Owner}
use Rattle.lucid_scope.specs.declared.table.Owner.TheVariants.{Plain, Parameter, Current, Function}
use Rattle.lucid_scope.specs.declared.table.Table.{Table}
use Rattle.lucid_scope.specs.declared.table.Saved.{Saved}

-- the owner of a name with this meaning
abbrev pub owner_of : Meaning → Option Owner
owner_of free = None
owner_of (plain_name d e k) = Some (Plain d)
owner_of (parameter d i at k) = Some (Parameter d i)
owner_of (current_name d e k o) = Some (Current d)
owner_of (function d ns ats e k) = Some (Function d (length ns))

-- a definition as an owner
abbrev pub definition_owner : Found → Option Owner
definition_owner absent = None
definition_owner (plain_def at e) = Some (Plain at)
definition_owner (function_def at ns ats e) = Some (Function at (length ns))
definition_owner (current_def at e) = Some (Current at)

-- a parameter as an owner, by its number
abbrev pub parameter_owner : (def : ℕ) → Option ℕ → Option Owner
parameter_owner d None = None
parameter_owner d (Some i) = Some (Parameter d i)

-- the first, or else the second
abbrev pub or_outer : Option Owner → Option Owner → Option Owner
or_outer None o = o
or_outer (Some x) o = Some x

abbrev pub flattened : Option (Option Owner) → Option Owner
flattened None = None
flattened (Some o) = o

-- what the table has for a name
abbrev pub look : Table → List ℕ → Option Owner
look t n = flattened (lookup (λ key. same_name n key.items) t.rows.entries)

-- the same, but for one name
abbrev pub with_owner : (name : List ℕ) → Option Owner → (List ℕ → Option Owner) → List ℕ → Option Owner
with_owner x o f n = if same_name n x then o else f n

-- what is saved is put back, the last of it first
abbrev pub put_back : List Saved → (List ℕ → Option Owner) → List ℕ → Option Owner
put_back [] f n = f n
put_back (s ∷ saved) f n = with_owner s.name s.owner (put_back saved f) n
