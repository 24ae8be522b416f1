-- Which tables have a text, and which bytes are none.
use Rattle.std.specs.Prelude.{◌≡◌, ◌≢◌, ℕ, ◌<◌, ◌^◌, List, length, IsTrue}
use Rattle.std.specs.List.{AllByRecursion}
use Rattle.lucid_value.specs.Plain.{is_value}
use Rattle.lucid_value.specs.Names.{is_name}
use Rattle.lucid_texts.specs.Words.{AreBelow}
use Rattle.lucid_texts.specs.TextLines as lines
use Rattle.lucid_equations.specs.Sound.{ScopeIs}
use Rattle.lucid_equations.specs.declared.rows.ScopeKind.{ScopeKind}
use Rattle.lucid_equations.specs.declared.rows.ScopeKind.TheVariants.{Root}
use Rattle.lucid_equations.specs.declared.rows.Node.{Node}
use Rattle.lucid_equations.specs.declared.rows.Node.TheVariants.{Apply}
use Rattle.lucid_equations.specs.declared.table.Table.{Table}
use Rattle.lucid_flat.specs.FlatText.{FlatRow, scope_row, input_row, constant_row, node_row, name_row, place_row, root_row, node_numbers, entry_number, flat_rows, flat_lines, flat_text}

-- scope 0 is there, is its own parent and is the one root
pub record HasOneRoot (t : Table) : Type 0 where
  pub first : ScopeIs t.scopes 0 0 Root
  pub only : (s p : ℕ) (k : ScopeKind) → 0 < s → ScopeIs t.scopes s p k → k ≢ Root

-- a number of 32 bits
abbrev pub Is32 : ℕ → Type 0
Is32 n = n < 2 ^ 32

abbrev pub Are32 : List ℕ → Type 0
Are32 ns = AreBelow (2 ^ 32) ns

-- a list of the code, which has fewer than 2^32 items
abbrev pub IsShort : {A : Type 0} → List A → Type 0
IsShort xs = length xs < 2 ^ 32

-- a data operator has three numbers
abbrev pub HasPlaces : Node → Type 0
HasPlaces (Apply op args) = length args ≡ 3
HasPlaces _ = Unit {0}

-- the numbers of a node are of 32 bits, those of a data operator three
abbrev pub NodeFits : Node → Type 0
NodeFits n = Are32 (node_numbers n) × HasPlaces n

-- A row that a line may have: its numbers are of 32 bits, a name is a name, a constant is a value, and no scope is another root.
abbrev pub RowFits : FlatRow → Type 0
RowFits (scope_row r) = Is32 r.parent × (r.kind ≢ Root)
RowFits (input_row n) = IsTrue (is_name n)
RowFits (constant_row v) = IsTrue (is_value v)
RowFits (node_row r) = Is32 r.scope × NodeFits r.node
RowFits (name_row r) = Is32 r.scope × Is32 (entry_number r.kind)
RowFits (place_row r) = Is32 r.scope × Is32 r.name × Are32 r.actuals × IsShort r.actuals
RowFits (root_row n) = Is32 n

-- The table has a text: scope 0 is its one root, and it is a table of the code.
pub record HasText (t : Table) : Type 0 where
  pub root : ScopeIs t.scopes 0 0 Root
  pub rows : AllByRecursion RowFits (flat_rows t)
  pub scopes : IsShort t.scopes
  pub constants : IsShort t.constants
  pub nodes : IsShort t.nodes
  pub names : IsShort t.names
  pub places : IsShort t.places

-- The bytes are the text of the table.
pub record IsTextOf (bytes : List ℕ) (t : Table) : Type 0 where
  pub has : HasText t
  pub text : bytes ≡ flat_text t

-- the lines are those of a table's text
abbrev pub AreTableLines : List (List ℕ) → Type 0
AreTableLines ls = (t : Table) × HasText t × (ls ≡ flat_lines t)

-- The bytes are no table's text, and the line, from 1, is the first with which none goes on.
abbrev pub IsFirstWrongLine : (bytes : List ℕ) → (line : ℕ) → Type 0
IsFirstWrongLine bytes line = lines.IsFirstWrongLine AreTableLines bytes line
