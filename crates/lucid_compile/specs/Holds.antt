-- What the lists of a table hold while it is built: for each thing that was added its row, in order.
use Rattle.std.specs.Prelude.{◌≡◌, ℕ, true, ◌<◌, Some, slice_get, List, [], ◌∷◌, ◌++◌, length, IsTrue}
use Rattle.lucid_tree.specs.Tree.{PlainTree, PlainTrees, PlainDefs}
use Rattle.lucid_tree.specs.WellMade.{is_shaped, are_shaped, defs_are_shaped}
use Rattle.lucid_scope.specs.Scoped.{scoped_inputs}
use Rattle.lucid_equations.specs.Nodes.{PlainNode, PlainEntry, plain_entry, called_entry, current_entry, parameter_entry}
use Rattle.lucid_compile.specs.Static.{Static, outermost, in_block, in_function, freezes, frame, level, in_body}
use Rattle.lucid_equations.specs.Ranges.{EachBelow}
use Rattle.lucid_equations.specs.Sound.{ScopeIs, StandsIn, EachStandsIn, PartsStand, EntryStands, IsFilled}
use Rattle.lucid_equations.specs.Rows.{at, all_at, parts, grow}
use Rattle.lucid_equations.specs.declared.rows.Node.{Node}
use Rattle.lucid_equations.specs.declared.rows.Entry.{Entry}
use Rattle.lucid_equations.specs.declared.rows.Entry.TheVariants.{Plain, Parameter, Current, Called}
use Rattle.lucid_equations.specs.declared.rows.ScopeKind.TheVariants.{Root, Called as CalledScope, Frozen as FrozenScope}
use Rattle.lucid_equations.specs.declared.rows.ScopeRow.{ScopeRow}
use Rattle.lucid_equations.specs.declared.rows.NodeRow.{NodeRow}
use Rattle.lucid_equations.specs.declared.rows.NameRow.{NameRow}
use Rattle.lucid_equations.specs.declared.rows.PlaceRow.{PlaceRow}
use Rattle.lucid_compile.specs.declared.building.Here.{Here}
use Rattle.lucid_compile.specs.declared.building.Body.{Body}
use Rattle.lucid_compile.specs.Numbered.{name_mark}
use Rattle.lucid_compile.specs.Keys.{keys_of}
use Rattle.lucid_compile.specs.Building.{Lists}
use Rattle.lucid_compile.specs.Known.{IsKnown, NamesNothing}
use Rattle.lucid_compile.specs.Noted.{OneForOne, IsNotedAt, AreNumbers, HasNumbers}
use Rattle.lucid_compile.specs.Notes.{Note, node_place, noted_tree, noted_actuals}
use Rattle.lucid_compile.specs.Bound.{Numbered, bound_node, bound_nodes, bound_entry, name_node, call_node, Target, no_target, of_name, of_call, piece_target, FunctionStand, Log, added, added_all, added_defs}

-- the nodes of the rows
abbrev pub nodes_in : Numbered → Lists → List PlainNode
nodes_in w l = grow l.constants (scoped_inputs w.scoped) [] l.nodes

-- each node's constant is there
abbrev pub AreKnown : ℕ → List NodeRow → Type 0
AreKnown n [] = Unit {0}
AreKnown n (r ∷ rs) = IsKnown n r.node × AreKnown n rs

-- each row is so
abbrev pub EachRow : {A : Type 0} → (A → Type 0) → List A → Type 0
EachRow P [] = Unit {0}
EachRow P (r ∷ rs) = P r × EachRow P rs

-- the scope of a number is that of what is in scope
abbrev pub IsOpen : (scopes : List Static) → (scope : ℕ) → Static → Type 0
IsOpen ks s k = slice_get ks s ≡ Some (frame k)

-- a scope's row, of a number: the outermost one is the root and its own parent; another one has a lower parent, and is called or frozen
abbrev pub IsScopeRow : (scopes : List Static) → (id : ℕ) → ScopeRow → Static → Type 0
IsScopeRow ks id r outermost = (id ≡ 0) × (r ≡ record { parent = 0; kind = Root })
IsScopeRow ks id r (in_block ds k) = (r.kind ≡ FrozenScope) × (r.parent < id) × IsOpen ks r.parent k
IsScopeRow ks id r (in_function d ns ats k) = (r.kind ≡ CalledScope) × (r.parent < id) × IsOpen ks r.parent k

abbrev pub ScopesHold : (scopes : List Static) → List ScopeRow → List Static → Type 0
ScopesHold ks rs ss = OneForOne (IsScopeRow ks) 0 rs ss

-- a node names this besides its parts
abbrev pub HasTarget : Numbered → Node → Target → Type 0
HasTarget w n no_target = NamesNothing n
HasTarget w n (of_name at) = n ≡ name_node w at
HasTarget w n (of_call at first) = n ≡ call_node w at first

-- a node's row, of a number: each part has a lower number
abbrev pub IsNodeRow : Numbered → (scopes : List Static) → (id : ℕ) → NodeRow → Note → Type 0
IsNodeRow w ks id r s = EachBelow id (parts r.node) × HasTarget w r.node (piece_target s.kind) × IsOpen ks r.scope s.home

abbrev pub NodesHold : Numbered → (scopes : List Static) → List NodeRow → List Note → Type 0
NodesHold w ks rs ss = OneForOne (IsNodeRow w ks) 0 rs ss

-- a row of a name is this entry, and its body is there
abbrev pub IsEntry : List PlainNode → Entry → PlainEntry → Type 0
IsEntry ts (Plain a) e = (a < length ts) × (plain_entry (at ts a) ≡ e)
IsEntry ts (Parameter i) e = parameter_entry i ≡ e
IsEntry ts (Current a) e = (a < length ts) × (current_entry (at ts a) ≡ e)
IsEntry ts (Called a) e = (a < length ts) × (called_entry (at ts a) ≡ e)

-- a name's row: its entry, in the scope of what is in scope from the entry on
abbrev pub IsNameRow : Numbered → (scopes : List Static) → List PlainNode → NameRow → Note → Type 0
IsNameRow w ks ts r s = IsEntry ts r.kind (bound_entry w s.kind) × IsOpen ks r.scope s.home

abbrev pub NamesHold : Numbered → (scopes : List Static) → List PlainNode → List NameRow → List Note → Type 0
NamesHold w ks ts rs ss = OneForOne (λ id r s. IsNameRow w ks ts r s) 0 rs ss

-- a call place's row: its actuals, where it stands, and the number of the call's own name
abbrev pub IsPlaceRow : Numbered → (scopes : List Static) → List PlainNode → PlaceRow → Note → Type 0
IsPlaceRow w ks ts r c = EachBelow (length ts) r.actuals × (all_at ts r.actuals ≡ bound_nodes w (noted_actuals c.kind)) × IsOpen ks r.scope c.home × (r.name ≡ (name_mark w.numbering c.at).number)

abbrev pub PlacesHold : Numbered → (scopes : List Static) → List PlainNode → List PlaceRow → List Note → Type 0
PlacesHold w ks ts rs cs = OneForOne (λ id r c. IsPlaceRow w ks ts r c) 0 rs cs

-- a function's right side
abbrev pub IsBody : Numbered → (scopes : List Static) → List PlainNode → Body → FunctionStand → Type 0
IsBody w ks ts b f = (b.body < length ts) × (at ts b.body ≡ bound_node w f.right) × IsOpen ks b.scope (in_body f.names f.places f.home)

abbrev pub FunctionsHold : Numbered → (scopes : List Static) → List PlainNode → List Body → List FunctionStand → Type 0
FunctionsHold w ks ts bs fs = OneForOne (λ id b f. IsBody w ks ts b f) 0 bs fs

-- a row's parts, body and actuals stand where they have to
abbrev pub NodeFits : List ScopeRow → List NodeRow → NodeRow → Type 0
NodeFits xs rs r = PartsStand xs rs r.scope r.node × IsFilled r.node

abbrev pub NameFits : List ScopeRow → List NodeRow → NameRow → Type 0
NameFits xs rs r = EntryStands xs rs r.scope r.kind

abbrev pub PlaceFits : List NodeRow → PlaceRow → Type 0
PlaceFits rs r = EachStandsIn rs r.scope r.actuals

abbrev pub BodyFits : List ScopeRow → List NodeRow → Body → Type 0
BodyFits xs rs b = EntryStands xs rs b.scope (Called b.body)

-- The lists hold all that was added, with its keys.
pub record Holds (w : Numbered) (l : Lists) (g : Log) : Type 0 where
  pub known : AreKnown (length l.constants) l.nodes
  pub outer : IsOpen g.scopes 0 outermost
  pub scopes : ScopesHold g.scopes l.scopes g.scopes
  pub nodes : NodesHold w g.scopes l.nodes g.nodes
  pub names : NamesHold w g.scopes (nodes_in w l) l.names g.names
  pub places : PlacesHold w g.scopes (nodes_in w l) l.places g.calls
  pub functions : FunctionsHold w g.scopes (nodes_in w l) l.bodies g.functions
  pub keys : l.keys ≡ keys_of g
  pub numbers : HasNumbers l g
  pub becomes : OneForOne (λ i x n. x ≡ bound_node w (noted_tree n.kind)) 0 (nodes_in w l) g.nodes
  pub parts : EachRow (NodeFits l.scopes l.nodes) l.nodes
  pub entries : EachRow (NameFits l.scopes l.nodes) l.names
  pub actuals : EachRow (PlaceFits l.nodes) l.places
  pub rights : EachRow (BodyFits l.scopes l.nodes) l.bodies

-- what was there before stays
abbrev pub Begins : {A : Type 0} → List A → List A → Type 0
Begins {A = A} xs ys = (more : List A) × (ys ≡ xs ++ more)

-- all that was added is held, and the nodes before stay
pub record Grown (w : Numbered) (o n : Lists) (g : Log) : Type 0 where
  pub holds : Holds w n g
  pub begins : Begins (nodes_in w o) (nodes_in w n)
  pub rows : Begins o.nodes n.nodes
  pub outer : Begins o.scopes n.scopes

-- and the node of that number is this one, was noted at the place, and stands in the scope
pub record GrownTo (w : Numbered) (o n : Lists) (g : Log) (x : PlainNode) (place scope id : ℕ) : Type 0 where
  pub grown : Grown w o n g
  pub within : id < length (nodes_in w n)
  pub is : at (nodes_in w n) id ≡ x
  pub noted : IsNotedAt g.nodes id place
  pub stands : StandsIn n.nodes scope id

-- and the nodes of those numbers are those of these trees, and stand in the scope
pub record AllGrownTo (w : Numbered) (o n : Lists) (g : Log) (es : PlainTrees) (scope : ℕ) (ids : List ℕ) : Type 0 where
  pub grown : Grown w o n g
  pub within : EachBelow (length (nodes_in w n)) ids
  pub are : all_at (nodes_in w n) ids ≡ bound_nodes w es
  pub noted : AreNumbers g.nodes ids es
  pub stand : EachStandsIn n.nodes scope ids

-- what is in scope has this level and this scope
abbrev pub StandsAt : Log → Static → Here → Type 0
StandsAt g k d = (level k ≡ d.level) × IsOpen g.scopes d.scope k

-- whatever the lists held before, they hold with what was added at this level and scope, where it is shaped
abbrev pub AddsTree : Numbered → (o n : Lists) → (here : Here) → PlainTree → (id : ℕ) → Type 0
AddsTree w o n d e id = (k : Static) (g : Log) → StandsAt g k d → IsTrue (is_shaped e) → Holds w o g → GrownTo w o n (added k e g) (bound_node w e) (node_place e) d.scope id

abbrev pub AddsTrees : Numbered → (o n : Lists) → (here : Here) → PlainTrees → (ids : List ℕ) → Type 0
AddsTrees w o n d es ids = (k : Static) (g : Log) → StandsAt g k d → IsTrue (are_shaped es) → Holds w o g → AllGrownTo w o n (added_all k es g) es d.scope ids

abbrev pub AddsDefs : Numbered → (o n : Lists) → (inside outside : Here) → PlainDefs → Type 0
AddsDefs w o n i d ds = (k q : Static) (g : Log) → StandsAt g k i → StandsAt g q d → (freezes ds ≡ true → ScopeIs o.scopes i.scope d.scope FrozenScope) → IsTrue (defs_are_shaped ds) → Holds w o g → Grown w o n (added_defs k q ds g)
