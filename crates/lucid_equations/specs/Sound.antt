-- Sound tables: each row stands in a scope, and what it names stands in that scope or in one round it, in eight rules. The table of a
-- compiled program is sound; a table that was read from text may be unsound.
use Rattle.std.specs.Prelude.{◌≡◌, ◌≢◌, ℕ, suc, ◌<◌, ◌≤◌, List, [], ◌∷◌, length, Some, slice_get, drop}
use Rattle.std.specs.Option.{option_map}
use Rattle.lucid_ops.specs.Arity.{arity}
use Rattle.lucid_tree.specs.Members.{AllDiffer}
use Rattle.lucid_equations.specs.Rows.{parts}
use Rattle.lucid_equations.specs.Ranges.{EachBelow, sizes, NodeNames}
use Rattle.lucid_equations.specs.declared.rows.ScopeKind.{ScopeKind}
use Rattle.lucid_equations.specs.declared.rows.ScopeKind.TheVariants.{Root, Called as CalledScope, Frozen as FrozenScope}
use Rattle.lucid_equations.specs.declared.rows.ScopeRow.{ScopeRow}
use Rattle.lucid_equations.specs.declared.rows.Node.{Node}
use Rattle.lucid_equations.specs.declared.rows.Node.TheVariants.{Apply, Freeze, Refer, Call}
use Rattle.lucid_equations.specs.declared.rows.Entry.{Entry}
use Rattle.lucid_equations.specs.declared.rows.Entry.TheVariants.{Plain, Parameter, Current, Called}
use Rattle.lucid_equations.specs.declared.rows.NodeRow.{NodeRow}
use Rattle.lucid_equations.specs.declared.rows.NameRow.{NameRow}
use Rattle.lucid_equations.specs.declared.rows.PlaceRow.{PlaceRow}
use Rattle.lucid_equations.specs.declared.table.Table.{Table}

-- No table has more inputs: a source has no more names than bytes.
abbrev pub most_inputs : ℕ
most_inputs = 1048576

-- the scope of a number has this parent and is of this kind
abbrev pub ScopeIs : List ScopeRow → (scope parent : ℕ) → ScopeKind → Type 0
ScopeIs xs s p k = slice_get xs s ≡ Some (record { parent = p; kind = k })

-- the node of a number stands in a scope, and each of some does
abbrev pub StandsIn : List NodeRow → (scope node : ℕ) → Type 0
StandsIn rs s id = option_map (λ r. r.scope) (slice_get rs id) ≡ Some s

abbrev pub EachStandsIn : List NodeRow → (scope : ℕ) → (nodes : List ℕ) → Type 0
EachStandsIn rs s [] = Unit {0}
EachStandsIn rs s (id ∷ ids) = StandsIn rs s id × EachStandsIn rs s ids

-- A node's parts stand in its scope. A subject whose time is frozen stands in a frozen scope whose parent is the node's scope.
abbrev pub PartsStand : List ScopeRow → List NodeRow → (scope : ℕ) → Node → Type 0
PartsStand xs rs s (Freeze a) = (inner : ℕ) × ScopeIs xs inner s FrozenScope × StandsIn rs inner a
PartsStand xs rs s n = EachStandsIn rs s (parts n)

-- each of some numbers is 0
abbrev pub AreZero : List ℕ → Type 0
AreZero [] = Unit {0}
AreZero (i ∷ is) = (i ≡ 0) × AreZero is

-- the numbers past an operator's arity are 0
abbrev pub IsFilled : Node → Type 0
IsFilled (Apply op args) = AreZero (drop (arity op) args)
IsFilled _ = Unit {0}

-- A plain body stands in its name's scope. A called name has a called scope, and its body stands there; a current name has a frozen
-- scope, and its body stands in the parent; a parameter has a called scope.
abbrev pub EntryStands : List ScopeRow → List NodeRow → (scope : ℕ) → Entry → Type 0
EntryStands xs rs s (Plain a) = StandsIn rs s a
EntryStands xs rs s (Parameter i) = (p : ℕ) × ScopeIs xs s p CalledScope
EntryStands xs rs s (Current a) = (p : ℕ) × ScopeIs xs s p FrozenScope × StandsIn rs p a
EntryStands xs rs s (Called a) = (p : ℕ) × ScopeIs xs s p CalledScope × StandsIn rs s a

-- a name to which a reference may lead: any but a called one
abbrev pub IsReferable : Entry → Type 0
IsReferable (Called a) = ⊥
IsReferable _ = Unit {0}

-- a scope is another one, or stands round it
pub data IsRound (xs : List ScopeRow) (outer : ℕ) : (inner : ℕ) → Type 0 where
  itself : IsRound xs outer outer
  further : {s p : ℕ} {k : ScopeKind} → ScopeIs xs s p k → IsRound xs outer p → IsRound xs outer s

-- the depth of a scope: its number of steps to scope 0
pub data HasDepth (xs : List ScopeRow) : (scope depth : ℕ) → Type 0 where
  outermost : HasDepth xs 0 0
  deeper : {s p n : ℕ} {k : ScopeKind} → 0 < s → ScopeIs xs s p k → HasDepth xs p n → HasDepth xs s (suc n)

module _ (t : Table) where
  -- a name's row
  abbrev pub NameIs : (name scope : ℕ) → Entry → Type 0
  NameIs n s e = slice_get t.names n ≡ Some (record { scope = s; kind = e })

  -- 1. Scope 0 is its own parent and is the one root; each other scope's parent has a lower number.
  pub record ScopesNest : Type 0 where
    pub first : ScopeIs t.scopes 0 0 Root
    pub others : (s p : ℕ) (k : ScopeKind) → 0 < s → ScopeIs t.scopes s p k → (p < s) × (k ≢ Root)

  -- a node's parts have lower numbers and stand where they have to, what else it names is there, and the numbers that it has no use for are 0
  pub record NodeNests (id : ℕ) (r : NodeRow) : Type 0 where
    pub lower : EachBelow id (parts r.node)
    pub stand : PartsStand t.scopes t.nodes r.scope r.node
    pub there : NodeNames (sizes t) r.node
    pub filled : IsFilled r.node

  -- 2. Each node is so.
  abbrev pub NodesNest : Type 0
  NodesNest = (id : ℕ) (r : NodeRow) → slice_get t.nodes id ≡ Some r → NodeNests id r

  -- a reference from a scope leads to a name of that scope or of one round it, at the depth of its level; no call's name
  pub record ReferenceLeads (scope name level : ℕ) : Type 0 where
    pub home : ℕ
    pub entry : Entry
    pub named : NameIs name home entry
    pub referable : IsReferable entry
    pub round : IsRound t.scopes home scope
    pub depth : HasDepth t.scopes home level

  -- 3. Each reference does.
  abbrev pub ReferencesLead : Type 0
  ReferencesLead = (id s n l : ℕ) → slice_get t.nodes id ≡ Some (record { scope = s; node = Refer n l }) → ReferenceLeads s n l

  -- a call from a scope leads to a called name, whose scope's parent is that scope or one round it, at the depth of its level; and its
  -- place's row has that scope and that name
  pub record CallLeads (scope name place level : ℕ) : Type 0 where
    pub inside : ℕ
    pub home : ℕ
    pub kind : ScopeKind
    pub body : ℕ
    pub named : NameIs name inside (Called body)
    pub parent : ScopeIs t.scopes inside home kind
    pub round : IsRound t.scopes home scope
    pub depth : HasDepth t.scopes home level
    pub row : PlaceRow
    pub passed : slice_get t.places place ≡ Some row
    pub row_scope : row.scope ≡ scope
    pub row_name : row.name ≡ name

  -- 4. Each call does.
  abbrev pub CallsLead : Type 0
  CallsLead = (id s n q l : ℕ) → slice_get t.nodes id ≡ Some (record { scope = s; node = Call n q l }) → CallLeads s n q l

  -- 5. Each name's body stands where it has to.
  abbrev pub BodiesStand : Type 0
  BodiesStand = (n s : ℕ) (e : Entry) → NameIs n s e → EntryStands t.scopes t.nodes s e

  -- a call place's name is a called one; its actuals stand in the place's scope, and each parameter of the name's scope has one
  pub record PlacePasses (r : PlaceRow) : Type 0 where
    pub home : ℕ
    pub body : ℕ
    pub named : NameIs r.name home (Called body)
    pub stand : EachStandsIn t.nodes r.scope r.actuals
    pub enough : (n i : ℕ) → NameIs n home (Parameter i) → i < length r.actuals

  -- 6. Each call place is so.
  abbrev pub PlacesPass : Type 0
  PlacesPass = (q : ℕ) (r : PlaceRow) → slice_get t.places q ≡ Some r → PlacePasses r

  -- 7. The root stands in scope 0; the inputs' names differ, and there are not too many of them.
  pub record RootStands : Type 0 where
    pub root : StandsIn t.nodes 0 t.root
    pub differ : AllDiffer t.inputs
    pub few : length t.inputs ≤ most_inputs

  -- 8. The scope of each node, of each name and of each call place is there.
  pub record RowsHaveScopes : Type 0 where
    pub nodes : (id : ℕ) (r : NodeRow) → slice_get t.nodes id ≡ Some r → r.scope < length t.scopes
    pub names : (n : ℕ) (r : NameRow) → slice_get t.names n ≡ Some r → r.scope < length t.scopes
    pub places : (q : ℕ) (r : PlaceRow) → slice_get t.places q ≡ Some r → r.scope < length t.scopes

-- The table is sound.
pub record IsSound (t : Table) : Type 0 where
  pub scopes : ScopesNest t
  pub nodes : NodesNest t
  pub references : ReferencesLead t
  pub calls : CallsLead t
  pub bodies : BodiesStand t
  pub places : PlacesPass t
  pub root : RootStands t
  pub homes : RowsHaveScopes t
