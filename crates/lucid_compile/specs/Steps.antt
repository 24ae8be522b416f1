-- What the functions that build a table promise each other.
use Rattle.std.specs.Prelude.{◌≡◌, ℕ, ◌+◌, ◌<◌, ◌^◌, List, ◌++◌, map, length, Option, Some, None, slice_get}
use Rattle.lucid_tree.specs.Tree.{Head, PlainTree, form, call, block, PlainTrees, PlainDefs}
use Rattle.lucid_tree.specs.Parts.{operands}
use Rattle.lucid_tree.specs.declared.tree.DefKind.{DefKind}
use Rattle.lucid_tree.specs.declared.tree.DefKind.TheVariants.{Plain as PlainKind, Function as FunctionKind, Current as CurrentKind}
use Rattle.lucid_tree.specs.Size.{count}
use Rattle.lucid_tree.specs.Shape.{FitsHead}
use Rattle.lucid_tree.specs.WellMade.{IsWellMade}
use Rattle.lucid_scope.specs.Bindings.{IsResolved}
use Rattle.lucid_scope.specs.Scoped.{scoped_tree, scoped_inputs, scoped_binding}
use Rattle.lucid_scope.specs.declared.scoped.Scoped.{Scoped}
use Rattle.lucid_compile.specs.Static.{Static, outermost, in_body}
use Rattle.lucid_compile.specs.Places.{first_place}
use Rattle.lucid_equations.specs.declared.rows.NameRow.{NameRow}
use Rattle.lucid_equations.specs.declared.rows.Entry.TheVariants.{Plain, Parameter, Current, Called}
use Rattle.lucid_equations.specs.declared.table.Table.{Table}
use Rattle.lucid_equations.specs.Sound.{ScopeIs}
use Rattle.lucid_equations.specs.declared.rows.ScopeKind.TheVariants.{Root, Called as CalledScope}
use Rattle.lucid_compile.specs.declared.building.Here.{Here}
use Rattle.lucid_compile.specs.declared.building.Body.{Body}
use Rattle.lucid_compile.specs.declared.building.Rows.{Rows}
use Rattle.lucid_compile.specs.declared.linking.Source.{Source}
use Rattle.lucid_compile.specs.declared.numbering.Key.{Key}
use Rattle.lucid_compile.specs.declared.numbering.Numbering.{Numbering}
use Rattle.lucid_compile.specs.Numbered.{function_mark}
use Rattle.lucid_compile.specs.Keys.{plain_key, function_key, IsNumberingOf}
use Rattle.lucid_compile.specs.Building.{Lists, no_lists, with_name, with_body, OneScope}
use Rattle.lucid_compile.specs.Notes.{Note, note, opening, called_right}
use Rattle.lucid_compile.specs.Bound.{Numbered, callee_place, FunctionStand, Log, with_parameters}
use Rattle.lucid_compile.specs.Linked.{link}
use Rattle.lucid_compile.specs.Holds.{StandsAt, Holds, Grown, AddsTree, AddsTrees}

abbrev pub numbered : Source → Numbered
numbered s = record { numbering = s.numbering.now; scoped = s.scoped.now }

-- to lists to which its parts were added, a form of them is added
abbrev pub AddsForm : Numbered → (m n : Lists) → (here : Here) → Head → (ids : List ℕ) → (id : ℕ) → Type 0
AddsForm w m n d f ids id = (o : Lists) (at : ℕ) (es : PlainTrees) → FitsHead f (count es) → AddsTrees w o m d es ids → AddsTree w o n d (form at f es) id

-- to lists to which its actuals were added, the first of them at a place, a call at a place is added
abbrev pub AddsCall : Numbered → (m n : Lists) → (here : Here) → (at first : ℕ) → (ids : List ℕ) → (id : ℕ) → Type 0
AddsCall w m n d at first ids id = (o : Lists) (x : List ℕ) (es : PlainTrees) → first ≡ first_place es → AddsTrees w o m d es ids → AddsTree w o n d (call at x es) id

-- a tree that is no block
abbrev pub IsNode : PlainTree → Type 0
IsNode (block at e ds) = ⊥
IsNode _ = Unit {0}

-- to lists to which its operands were added, a tree is added that is no block
abbrev pub AddsNode : Numbered → (m n : Lists) → (here : Here) → PlainTree → (ids : List ℕ) → (id : ℕ) → Type 0
AddsNode w m n d e ids id = (o : Lists) → AddsTrees w o m d (operands e) ids → AddsTree w o n d e id

-- a block is added
abbrev pub AddsBlock : Numbered → (o n : Lists) → (here : Here) → PlainTree → PlainDefs → (id : ℕ) → Type 0
AddsBlock w o n d e ds id = (at : ℕ) → AddsTree w o n d (block at e ds) id

-- whatever the lists held before, they hold with a function's parameters
abbrev pub AddsParameters : Numbered → (o n : Lists) → (here : Here) → (places : List ℕ) → Type 0
AddsParameters w o n d ats = (k : Static) (g : Log) → StandsAt g k d → ((p : ℕ) × ScopeIs o.scopes d.scope p CalledScope) → Holds w o g → Grown w o n (with_parameters k 0 ats g)

-- what is in scope at a right side, by what is inside and outside of the block: a function's has a scope of its own, with its parameters
abbrev pub OpensRight : Numbered → (o n : Lists) → (inside outside : Here) → DefKind → (here : Here) → Type 0
OpensRight w o n i d (PlainKind e) h = (n ≡ o) × (h ≡ i)
OpensRight w o n i d (FunctionKind ps ats e) h = (m : Lists) × OneScope o m (record { parent = i.scope; kind = CalledScope }) h.scope × (h.level ≡ i.level + 1) × AddsParameters w m n h ats
OpensRight w o n i d (CurrentKind e) h = (n ≡ o) × (h ≡ d)

-- a definition at a place has its row, with this right side; the number of its first parameter's row is that of a function's key
abbrev pub ClosesRight : (o n : Lists) → (inside : Here) → (at : ℕ) → DefKind → (first : ℕ) → Body → Type 0
ClosesRight o n i at (PlainKind e) first b = n ≡ with_name (plain_key at i.level) (record { scope = i.scope; kind = Plain b.body }) o
ClosesRight o n i at (FunctionKind ps ats e) first b = n ≡ with_body (function_key at first i.level) b o
ClosesRight o n i at (CurrentKind e) first b = n ≡ with_name (plain_key at i.level) (record { scope = i.scope; kind = Current b.body }) o

-- the number of the function that the call at a place calls
abbrev pub callee_number : Numbered → (at : ℕ) → ℕ
callee_number w at = (function_mark w.numbering (callee_place (scoped_binding w.scoped at))).number

-- the row of a call of that function
abbrev pub row_of_call : (at : ℕ) → Option FunctionStand → Note
row_of_call at None = note at outermost opening
row_of_call at (Some f) = note at (in_body f.names f.places f.home) (called_right f.right)

abbrev pub call_row : Numbered → List FunctionStand → (at : ℕ) → Note
call_row w fs at = row_of_call at (slice_get fs (callee_number w at))

-- with other names
abbrev pub with_names : List NameRow → Lists → Lists
with_names rs l = record { scopes = l.scopes; constants = l.constants; nodes = l.nodes; names = rs; places = l.places; bodies = l.bodies; keys = l.keys }

-- the row of a call of a function with this right side
abbrev pub row_by : Option Body → NameRow
row_by None = record { scope = 0; kind = Parameter 0 }
row_by (Some b) = record { scope = b.scope; kind = Called b.body }

-- the rows of calls with some keys
abbrev pub rows_of_calls : Numbered → List Body → (calls : List Key) → List NameRow
rows_of_calls w bs ks = map (λ k. row_by (slice_get bs (callee_number w k.at))) ks

-- the names' rows, and after them those of the calls
abbrev pub with_calls : Numbered → Lists → Lists
with_calls w l = with_names (l.names ++ rows_of_calls w l.bodies l.keys.calls) l

-- the lists of the rows of a tree that was resolved, with the number of its root's node: a scope was opened, the tree walked, and the rows linked
pub record AreRowsOf (scoped : Scoped) (after : Lists) (root : ℕ) : Type 0 where
  pub well_made : IsWellMade (scoped_tree scoped)
  pub resolved : ∥ IsResolved (scoped_tree scoped) (scoped_inputs scoped) (scoped_binding scoped) ∥₁
  pub scope : ℕ
  pub opened : Lists
  pub opens : OneScope no_lists opened (record { parent = 0; kind = Root }) scope
  pub walked : Lists
  pub adds : (w : Numbered) → AddsTree w (link w opened) (link w walked) (record { scope = scope; level = 0 }) (scoped_tree scoped) root
  pub numbering : Numbering
  pub numbers : IsNumberingOf walked.keys numbering
  pub links : after ≡ with_calls (record { numbering = numbering; scoped = scoped }) (link (record { numbering = numbering; scoped = scoped }) walked)

-- lists of rows, and of inputs, whose items numbers of 32 bits can count
pub record AreFew (rows : Rows) (inputs : List (List ℕ)) : Type 0 where
  pub few_inputs : length inputs < 2 ^ 32
  pub few_scopes : length rows.scopes.items < 2 ^ 32
  pub few_constants : length rows.constants.items < 2 ^ 32
  pub few_nodes : length rows.nodes.items < 2 ^ 32
  pub few_names : length rows.names.items < 2 ^ 32
  pub few_places : length rows.places.items < 2 ^ 32

-- the table of some lists
pub record IsTableOf (l : Lists) (inputs : List (List ℕ)) (root : ℕ) (t : Table) : Type 0 where
  pub scopes : t.scopes ≡ l.scopes
  pub constants : t.constants ≡ l.constants
  pub inputs_are : t.inputs ≡ inputs
  pub few_inputs : length inputs < 2 ^ 32
  pub nodes : t.nodes ≡ l.nodes
  pub names : t.names ≡ l.names
  pub places : t.places ≡ l.places
  pub root_is : t.root ≡ root
