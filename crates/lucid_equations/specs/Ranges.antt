-- Numbers that are in range: each leads somewhere, and the parts of a node have lower numbers than the node.
use Rattle.std.specs.Prelude.{ℕ, suc, ◌<◌, ◌^◌, List, [], ◌∷◌, length}
use Rattle.std.proofs.Props.{props}
use Rattle.lucid_equations.specs.declared.rows.Node.{Node}
use Rattle.lucid_equations.specs.declared.rows.Node.TheVariants.{Const, Input, Refer, Call}
use Rattle.lucid_equations.specs.declared.rows.Entry.{Entry}
use Rattle.lucid_equations.specs.declared.rows.Entry.TheVariants.{Plain, Parameter, Current, Called}
use Rattle.lucid_equations.specs.declared.rows.NodeRow.{NodeRow}
use Rattle.lucid_equations.specs.declared.rows.NameRow.{NameRow}
use Rattle.lucid_equations.specs.declared.rows.PlaceRow.{PlaceRow}
use Rattle.lucid_equations.specs.declared.table.Table.{Table}
use Rattle.lucid_equations.specs.Rows.{parts}

-- each number is below a bound
abbrev pub EachBelow : ℕ → List ℕ → Type 0
EachBelow n [] = Unit {0}
EachBelow n (i ∷ is) = (i < n) × EachBelow n is

-- how many rows each list of a table has
pub record Sizes : Type 0 where
  pub constants : ℕ
  pub inputs : ℕ
  pub nodes : ℕ
  pub names : ℕ
  pub places : ℕ

abbrev pub sizes : Table → Sizes
sizes t = record { constants = length t.constants; inputs = length t.inputs; nodes = length t.nodes; names = length t.names; places = length t.places }

-- what a node names besides its parts is there
abbrev pub NodeNames : Sizes → Node → Type 0
NodeNames z (Const k) = k < z.constants
NodeNames z (Input k) = k < z.inputs
NodeNames z (Refer n l) = n < z.names
NodeNames z (Call n q l) = (n < z.names) × (q < z.places)
NodeNames z _ = Unit {0}

-- a node's parts have numbers lower than its own, and what else it names is there
abbrev pub NodeIsInRange : Sizes → (id : ℕ) → Node → Type 0
NodeIsInRange z id n = EachBelow id (parts n) × NodeNames z n

abbrev pub NodesAreInRange : Sizes → (first : ℕ) → List NodeRow → Type 0
NodesAreInRange z i [] = Unit {0}
NodesAreInRange z i (r ∷ rs) = NodeIsInRange z i r.node × NodesAreInRange z (suc i) rs

-- a body is there
abbrev pub EntryIsInRange : Sizes → Entry → Type 0
EntryIsInRange z (Plain a) = a < z.nodes
EntryIsInRange z (Parameter i) = Unit {0}
EntryIsInRange z (Current a) = a < z.nodes
EntryIsInRange z (Called a) = a < z.nodes

abbrev pub NamesAreInRange : Sizes → List NameRow → Type 0
NamesAreInRange z [] = Unit {0}
NamesAreInRange z (r ∷ rs) = EntryIsInRange z r.kind × NamesAreInRange z rs

-- each actual is there
abbrev pub PlacesAreInRange : Sizes → List PlaceRow → Type 0
PlacesAreInRange z [] = Unit {0}
PlacesAreInRange z (r ∷ rs) = EachBelow z.nodes r.actuals × PlacesAreInRange z rs

-- The root, the parts of nodes and what else they name, the bodies of names, and the actuals of call places are there.
abbrev pub IsInRange : Table → Type 0
IsInRange t =
    (t.root < length t.nodes) × (length t.inputs < 2 ^ 32) × NodesAreInRange (sizes t) 0 t.nodes × NamesAreInRange (sizes t) t.names × PlacesAreInRange (sizes t) t.places

-- At most one proof says so.
pub EachBelow-prop : (n : ℕ) (is : List ℕ) → IsProp (EachBelow n is)
EachBelow-prop n [] = hlevel props
EachBelow-prop n (i ∷ is) = hlevel (props, EachBelow-prop n is)

NodeNames-prop : (z : Sizes) (n : Node) → IsProp (NodeNames z n)
NodeNames-prop z (Const k) = hlevel props
NodeNames-prop z n = hlevel props

NodesAreInRange-prop : (z : Sizes) (i : ℕ) (rs : List NodeRow) → IsProp (NodesAreInRange z i rs)
NodesAreInRange-prop z i [] = hlevel props
NodesAreInRange-prop z i (r ∷ rs) = hlevel (props, EachBelow-prop i (parts r.node), NodeNames-prop z r.node, NodesAreInRange-prop z (suc i) rs)

EntryIsInRange-prop : (z : Sizes) (e : Entry) → IsProp (EntryIsInRange z e)
EntryIsInRange-prop z (Plain a) = hlevel props
EntryIsInRange-prop z e = hlevel props

NamesAreInRange-prop : (z : Sizes) (rs : List NameRow) → IsProp (NamesAreInRange z rs)
NamesAreInRange-prop z [] = hlevel props
NamesAreInRange-prop z (r ∷ rs) = hlevel (props, EntryIsInRange-prop z r.kind, NamesAreInRange-prop z rs)

PlacesAreInRange-prop : (z : Sizes) (rs : List PlaceRow) → IsProp (PlacesAreInRange z rs)
PlacesAreInRange-prop z [] = hlevel props
PlacesAreInRange-prop z (r ∷ rs) = hlevel (props, EachBelow-prop z.nodes r.actuals, PlacesAreInRange-prop z rs)

pub IsInRange-prop : (t : Table) → IsProp (IsInRange t)
IsInRange-prop t = hlevel (props, NodesAreInRange-prop (sizes t) 0 t.nodes, NamesAreInRange-prop (sizes t) t.names, PlacesAreInRange-prop (sizes t) t.places)
