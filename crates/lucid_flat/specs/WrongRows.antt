-- Which row of a table is wrong, and which is the first: each rule of a sound table is a rule on the rows of one list.
use Rattle.std.specs.Prelude.{◌≡◌, ◌≢◌, ℕ, ◌<◌, List, [], length, Some, slice_get}
use Rattle.lucid_equations.specs.Sound.{EntryStands, NodeNests, ReferenceLeads, CallLeads, PlacePasses, RootStands, IsSound}
use Rattle.lucid_equations.specs.declared.rows.ScopeKind.TheVariants.{Root as RootScope}
use Rattle.lucid_equations.specs.declared.rows.ScopeRow.{ScopeRow}
use Rattle.lucid_equations.specs.declared.rows.Node.TheVariants.{Refer, Call}
use Rattle.lucid_equations.specs.declared.rows.NodeRow.{NodeRow}
use Rattle.lucid_equations.specs.declared.rows.NameRow.{NameRow}
use Rattle.lucid_equations.specs.declared.rows.PlaceRow.{PlaceRow}
use Rattle.lucid_equations.specs.declared.table.Table.{Table}
use Rattle.lucid_flat.specs.declared.program.BuildRefusal.{BuildRefusal}
use Rattle.lucid_flat.specs.declared.program.BuildRefusal.TheVariants.{Scope, Node, Name, Place, Root, NoMemory}

-- a scope's row: scope 0 is its own parent and the root; another scope's parent has a lower number, and it is no root
pub record ScopeIsRight (id : ℕ) (r : ScopeRow) : Type 0 where
  pub first : id ≡ 0 → r ≡ record { parent = 0; kind = RootScope }
  pub lower : 0 < id → r.parent < id
  pub inner : 0 < id → r.kind ≢ RootScope

module _ (t : Table) where
  -- a node's row: its parts stand where they have to, and a reference or a call leads somewhere
  pub record NodeIsRight (id : ℕ) (r : NodeRow) : Type 0 where
    pub here : r.scope < length t.scopes
    pub nests : NodeNests t id r
    pub refers : (n l : ℕ) → r.node ≡ Refer n l → ReferenceLeads t r.scope n l
    pub calls : (n q l : ℕ) → r.node ≡ Call n q l → CallLeads t r.scope n q l

  -- a name's row: its scope is of its kind, and its body stands where it has to
  pub record NameIsRight (r : NameRow) : Type 0 where
    pub here : r.scope < length t.scopes
    pub stands : EntryStands t.scopes t.nodes r.scope r.kind

  -- a call place's row
  pub record PlaceIsRight (r : PlaceRow) : Type 0 where
    pub here : r.scope < length t.scopes
    pub passes : PlacePasses t r

-- all rows of a list are right
abbrev pub AllRight : {A : Type 0} → (ℕ → A → Type 0) → List A → Type 0
AllRight {A = A} Right rows = (id : ℕ) (r : A) → slice_get rows id ≡ Some r → Right id r

-- the row of this number isn't right, and all before it are
pub record IsFirstWrong {A : Type 0} (Right : ℕ → A → Type 0) (rows : List A) (at : ℕ) : Type 0 where
  pub row : A
  pub there : slice_get rows at ≡ Some row
  pub wrong : Right at row → ⊥
  pub before : (id : ℕ) (r : A) → id < at → slice_get rows id ≡ Some r → Right id r

-- all scopes are right, and there are some; all nodes are, all names, all call places
abbrev pub ScopesAreRight : Table → Type 0
ScopesAreRight t = (t.scopes ≢ []) × AllRight ScopeIsRight t.scopes

abbrev pub NodesAreRight : Table → Type 0
NodesAreRight t = AllRight (NodeIsRight t) t.nodes

abbrev pub NamesAreRight : Table → Type 0
NamesAreRight t = AllRight (λ id. NameIsRight t) t.names

abbrev pub PlacesAreRight : Table → Type 0
PlacesAreRight t = AllRight (λ id. PlaceIsRight t) t.places

-- All rows of a table are right.
pub record RowsAreRight (t : Table) : Type 0 where
  pub scopes : ScopesAreRight t
  pub nodes : NodesAreRight t
  pub names : NamesAreRight t
  pub places : PlacesAreRight t

-- The first wrong row of a table, in the order scopes, nodes, names, call places, root. Where there are no scopes, it is scope 0. Inputs of one
-- name and too many inputs are the root's.
pub data IsFirstWrongRow (t : Table) : BuildRefusal → Type 0 where
  no_scopes : t.scopes ≡ [] → IsFirstWrongRow t (Scope 0)
  wrong_scope : (at : ℕ) → IsFirstWrong ScopeIsRight t.scopes at → IsFirstWrongRow t (Scope at)
  wrong_node : (at : ℕ) → ScopesAreRight t → IsFirstWrong (NodeIsRight t) t.nodes at → IsFirstWrongRow t (Node at)
  wrong_name : (at : ℕ) → ScopesAreRight t → NodesAreRight t → IsFirstWrong (λ id. NameIsRight t) t.names at → IsFirstWrongRow t (Name at)
  wrong_place : (at : ℕ) → ScopesAreRight t → NodesAreRight t → NamesAreRight t → IsFirstWrong (λ id. PlaceIsRight t) t.places at → IsFirstWrongRow t (Place at)
  wrong_root : RowsAreRight t → (RootStands t → ⊥) → IsFirstWrongRow t Root

-- Why a table is refused: its first wrong row, where it isn't sound, or want of memory.
abbrev pub IsTableRefused : Table → BuildRefusal → Type 0
IsTableRefused t NoMemory = Unit {0}
IsTableRefused t why = IsFirstWrongRow t why × (IsSound t → ⊥)
