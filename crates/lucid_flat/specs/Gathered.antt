-- The rows that were read so far, and which rows may come behind them.
use Rattle.std.specs.Prelude.{◌≡◌, ℕ, ◌<◌, ◌==◌, if◌then◌else◌, List, [], ◌∷◌, ◌++◌, map, drop}
use Rattle.std.specs.List.{AllByRecursion}
use Rattle.lucid_value.specs.View.{plain}
use Rattle.lucid_equations.specs.Sound.{ScopeIs}
use Rattle.lucid_equations.specs.declared.rows.ScopeKind.TheVariants.{Root as RootScope}
use Rattle.lucid_equations.specs.declared.table.Table.{Table}
use Rattle.lucid_flat.specs.declared.gather.Part.{Part}
use Rattle.lucid_flat.specs.declared.gather.Part.TheVariants.{Scopes, Inputs, Constants, Nodes, Names, Places, Root, End}
use Rattle.lucid_flat.specs.declared.gather.Rows.{Rows}
use Rattle.lucid_flat.specs.FlatText.{FlatRow, scope_row, input_row, constant_row, node_row, name_row, place_row, root_row, flat_rows}
use Rattle.lucid_flat.specs.FlatTables.{RowFits, HasText, IsShort}

-- the number of a part, in the order of the text
abbrev pub part_number : Part → ℕ
part_number Scopes = 0
part_number Inputs = 1
part_number Constants = 2
part_number Nodes = 3
part_number Names = 4
part_number Places = 5
part_number Root = 6
part_number End = 7

abbrev pub row_part : FlatRow → ℕ
row_part (scope_row r) = 0
row_part (input_row n) = 1
row_part (constant_row v) = 2
row_part (node_row r) = 3
row_part (name_row r) = 4
row_part (place_row r) = 5
row_part (root_row n) = 6

-- the part from which rows may come behind a row: its own, and behind the root none
abbrev pub next_part : FlatRow → ℕ
next_part (root_row n) = 7
next_part r = row_part r

-- and behind some rows
abbrev pub part_behind : ℕ → List FlatRow → ℕ
part_behind p [] = p
part_behind p (r ∷ rs) = part_behind (next_part r) rs

-- the table of the rows so far
abbrev pub table_of : Rows → Table
table_of r = record {
  scopes = r.scopes.items;
  inputs = r.inputs.items;
  constants = map plain r.constants.items;
  nodes = r.nodes.items;
  names = r.names.items;
  places = r.places.items;
  root = r.root;
}

-- the rows of a table, the root's only behind all others
abbrev pub rows_so_far : Table → (part : ℕ) → List FlatRow
rows_so_far t p =
    map scope_row (drop 1 t.scopes) ++ (map input_row t.inputs ++ (map constant_row t.constants ++ (map node_row t.nodes
    ++ (map name_row t.names ++ (map place_row t.places ++ (if p == 7 then root_row t.root ∷ [] else []))))))

-- the lists behind a part are empty
pub record AreEmptyBehind (t : Table) (p : ℕ) : Type 0 where
  pub inputs : p < 1 → t.inputs ≡ []
  pub constants : p < 2 → t.constants ≡ []
  pub nodes : p < 3 → t.nodes ≡ []
  pub names : p < 4 → t.names ≡ []
  pub places : p < 5 → t.places ≡ []

-- The rows of a table so far begin a text, which may go on with rows from the part on.
pub record IsBegun (t : Table) (p : ℕ) : Type 0 where
  pub root : ScopeIs t.scopes 0 0 RootScope
  pub fit : AllByRecursion RowFits (rows_so_far t p)
  pub part : p ≡ part_behind 0 (rows_so_far t p)
  pub empty : AreEmptyBehind t p
  pub scopes : IsShort t.scopes
  pub constants : IsShort t.constants
  pub nodes : IsShort t.nodes
  pub names : IsShort t.names
  pub places : IsShort t.places

abbrev pub part_in : Rows → ℕ
part_in r = part_number r.part

abbrev pub rows_in : Rows → List FlatRow
rows_in r = rows_so_far (table_of r) (part_in r)

abbrev pub AreBegun : Rows → Type 0
AreBegun r = IsBegun (table_of r) (part_in r)

-- no table's text goes on with the row behind these rows
abbrev pub CannotCome : List FlatRow → FlatRow → Type 0
CannotCome rs r = (t : Table) (more : List FlatRow) → HasText t → flat_rows t ≡ rs ++ r ∷ more → ⊥
