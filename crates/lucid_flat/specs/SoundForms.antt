-- What is right of a node, in parts: its parts, a frozen subject, the callee and the place of a call, and each node by its form; and what is
-- right of a name, by the row of its scope.
use Rattle.std.specs.Prelude.{◌≡◌, ℕ, ◌<◌, List, [], ◌∷◌, length, Some, slice_get}
use Rattle.lucid_equations.specs.Rows.{parts}
use Rattle.lucid_equations.specs.Sound.{ScopeIs, StandsIn, IsFilled, IsRound, HasDepth, NameIs, ReferenceLeads}
use Rattle.lucid_equations.specs.declared.rows.ScopeKind.{ScopeKind}
use Rattle.lucid_equations.specs.declared.rows.ScopeKind.TheVariants.{Called as CalledScope, Frozen as FrozenScope}
use Rattle.lucid_equations.specs.declared.rows.ScopeRow.{ScopeRow}
use Rattle.lucid_equations.specs.declared.rows.Node.{Node}
use Rattle.lucid_equations.specs.declared.rows.Node.TheVariants.{Const, Input, Freeze, Refer, Call}
use Rattle.lucid_equations.specs.declared.rows.Entry.{Entry}
use Rattle.lucid_equations.specs.declared.rows.Entry.TheVariants.{Plain, Parameter, Current, Called}
use Rattle.lucid_equations.specs.declared.rows.NodeRow.{NodeRow}
use Rattle.lucid_equations.specs.declared.rows.PlaceRow.{PlaceRow}
use Rattle.lucid_equations.specs.declared.table.Table.{Table}

-- each of some parts has a lower number than the node and stands in its scope
abbrev pub ArePartsRight : List NodeRow → (scope id : ℕ) → (parts : List ℕ) → Type 0
ArePartsRight rs s id [] = Unit {0}
ArePartsRight rs s id (i ∷ is) = (i < id) × StandsIn rs s i × ArePartsRight rs s id is

-- a name of a scope with this row: the row is of the kind that the name wants, and the body stands where it has to
abbrev pub EntryFits : List NodeRow → (scope : ℕ) → ScopeRow → Entry → Type 0
EntryFits rs s x (Plain a) = StandsIn rs s a
EntryFits rs s x (Parameter i) = x.kind ≡ CalledScope
EntryFits rs s x (Current a) = (x.kind ≡ FrozenScope) × StandsIn rs x.parent a
EntryFits rs s x (Called a) = (x.kind ≡ CalledScope) × StandsIn rs s a

module _ (t : Table) where
  -- a frozen subject has a lower number, and stands in a frozen scope right inside the scope
  pub record SubjectStands (scope id subject : ℕ) : Type 0 where
    pub inner : ℕ
    pub lower : subject < id
    pub frozen : ScopeIs t.scopes inner scope FrozenScope
    pub stands : StandsIn t.nodes inner subject

  -- a call from a scope leads to a called name, whose scope's parent is that scope or one round it, at the depth of its level
  pub record CalleeLeads (scope name level : ℕ) : Type 0 where
    pub inside : ℕ
    pub home : ℕ
    pub kind : ScopeKind
    pub body : ℕ
    pub named : NameIs t name inside (Called body)
    pub parent : ScopeIs t.scopes inside home kind
    pub round : IsRound t.scopes home scope
    pub depth : HasDepth t.scopes home level

  -- a place's row has the scope and the name
  pub record PlaceLeads (scope name place : ℕ) : Type 0 where
    pub row : PlaceRow
    pub passed : slice_get t.places place ≡ Some row
    pub row_scope : row.scope ≡ scope
    pub row_name : row.name ≡ name

  -- a node of a scope is right
  abbrev pub FormIsRight : (scope id : ℕ) → Node → Type 0
  FormIsRight s id (Const k) = k < length t.constants
  FormIsRight s id (Input k) = k < length t.inputs
  FormIsRight s id (Freeze a) = SubjectStands s id a
  FormIsRight s id (Refer n l) = ReferenceLeads t s n l
  FormIsRight s id (Call n q l) = CalleeLeads s n l × PlaceLeads s n q
  FormIsRight s id n = ArePartsRight t.nodes s id (parts n) × IsFilled n
