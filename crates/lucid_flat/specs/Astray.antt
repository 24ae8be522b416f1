-- Small tables that aren't sound, each by one rule alone, whose number among the rules stands at the table.
use Rattle.std.specs.Prelude.{ℕ, List, [], ◌∷◌}
use Rattle.lucid_value.specs.Plain.{eod}
use Rattle.lucid_equations.specs.Rows.{equations_of}
use Rattle.lucid_equations.specs.declared.rows.ScopeKind.{ScopeKind}
use Rattle.lucid_equations.specs.declared.rows.ScopeKind.TheVariants.{Root, Called as CalledScope, Frozen as FrozenScope}
use Rattle.lucid_equations.specs.declared.rows.ScopeRow.{ScopeRow}
use Rattle.lucid_equations.specs.declared.rows.Node.{Node}
use Rattle.lucid_equations.specs.declared.rows.Node.TheVariants.{Const, First, Refer, Call}
use Rattle.lucid_equations.specs.declared.rows.Entry.{Entry}
use Rattle.lucid_equations.specs.declared.rows.Entry.TheVariants.{Parameter, Plain, Current, Called}
use Rattle.lucid_equations.specs.declared.rows.NodeRow.{NodeRow}
use Rattle.lucid_equations.specs.declared.rows.NameRow.{NameRow}
use Rattle.lucid_equations.specs.declared.rows.PlaceRow.{PlaceRow}
use Rattle.lucid_equations.specs.declared.table.Table.{Table}
use Rattle.lucid_flat.specs.Met.{EachReferenceLeads}
use Rattle.lucid_flat.specs.Fits.{EachDatonHasItsFrame}

-- a scope in scope 0
abbrev within : ScopeKind → ScopeRow
within k = record { parent = 0; kind = k }

-- a node and a name in a scope
abbrev stands : (scope : ℕ) → Node → NodeRow
stands s n = record { scope = s; node = n }

abbrev named : (scope : ℕ) → Entry → NameRow
named s e = record { scope = s; kind = e }

-- a place in scope 0 that calls a name without arguments
abbrev calls : (name : ℕ) → PlaceRow
calls n = record { scope = 0; name = n; actuals = [] }

-- a table without inputs, with one constant
abbrev table : List ScopeRow → List NodeRow → List NameRow → List PlaceRow → (root : ℕ) → Table
table scopes nodes names places root =
    record { scopes = scopes; inputs = []; constants = eod ∷ []; nodes = nodes; names = names; places = places; root = root }

-- 1. Scope 0 is a called one: its parameter has no frame.
abbrev pub called_outermost : Table
called_outermost = table (within CalledScope ∷ []) (stands 0 (Refer 0 0) ∷ []) (named 0 (Parameter 0) ∷ []) [] 0

-- 2. A part stands in a frozen scope, but not the node: the part's current name has no frame.
abbrev pub part_elsewhere : Table
part_elsewhere = table (within Root ∷ within FrozenScope ∷ []) (stands 1 (Refer 0 1) ∷ stands 0 (First 0) ∷ []) (named 1 (Current 1) ∷ []) [] 1

-- 3. A reference leads from scope 0 to a current name of a scope inside it.
abbrev pub reference_inwards : Table
reference_inwards = table (within Root ∷ within FrozenScope ∷ []) (stands 0 (Refer 0 0) ∷ []) (named 1 (Current 0) ∷ []) [] 0

-- 4. A call of a name with a parameter has the place of a call of a name without.
abbrev pub place_of_another : Table
place_of_another =
    table (within Root ∷ within CalledScope ∷ within CalledScope ∷ []) (stands 1 (Refer 1 1) ∷ stands 0 (Call 0 0 0) ∷ stands 2 (Const 0) ∷ [])
    (named 1 (Called 0) ∷ named 1 (Parameter 0) ∷ named 2 (Called 2) ∷ []) (calls 2 ∷ []) 1

-- 5. The body of a plain name of scope 0 stands in a frozen scope.
abbrev pub body_elsewhere : Table
body_elsewhere =
    table (within Root ∷ within FrozenScope ∷ []) (stands 1 (Refer 1 1) ∷ stands 0 (Refer 0 0) ∷ []) (named 0 (Plain 0) ∷ named 1 (Current 1) ∷ []) [] 1

-- 6. A place has no actual for the parameter.
abbrev pub actual_missing : Table
actual_missing =
    table (within Root ∷ within CalledScope ∷ []) (stands 1 (Refer 1 1) ∷ stands 0 (Call 0 0 0) ∷ []) (named 1 (Called 0) ∷ named 1 (Parameter 0) ∷ [])
    (calls 0 ∷ []) 1

-- 7. The root stands in a frozen scope.
abbrev pub root_elsewhere : Table
root_elsewhere = table (within Root ∷ within FrozenScope ∷ []) (stands 1 (Refer 0 1) ∷ stands 0 (Const 0) ∷ []) (named 1 (Current 1) ∷ []) [] 0

-- 3 again. A reference that is no call leads from scope 0 to a called name: it finds the body, but has no frame.
abbrev pub reference_of_call : Table
reference_of_call = table (within Root ∷ within CalledScope ∷ []) (stands 1 (Const 0) ∷ stands 0 (Refer 0 0) ∷ []) (named 1 (Called 0) ∷ []) [] 1

-- not each reference that is met leads somewhere
abbrev pub GoesAstray : Table → Type 0
GoesAstray T = EachReferenceLeads (equations_of T) → ⊥

-- It is so in the first seven tables,
abbrev pub UnsoundTablesGoAstray : Type 0
UnsoundTablesGoAstray =
    GoesAstray called_outermost × GoesAstray part_elsewhere × GoesAstray reference_inwards × GoesAstray place_of_another × GoesAstray body_elsewhere
    × GoesAstray actual_missing × GoesAstray root_elsewhere

-- and the last one visits a daton without its frame.
abbrev pub FramesAreMissed : Type 0
FramesAreMissed = EachDatonHasItsFrame reference_of_call → ⊥
