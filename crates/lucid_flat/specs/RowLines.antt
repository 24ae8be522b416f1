-- The row of a line.
use Rattle.std.specs.Prelude.{◌≡◌, ℕ, List, Option, Some, None}
use Rattle.lucid_value.specs.View.{plain}
use Rattle.lucid_flat.specs.declared.rows.Row.{Row}
use Rattle.lucid_flat.specs.declared.rows.Row.TheVariants.{Scope, Input, Constant, Node, Name, Place, Root}
use Rattle.lucid_flat.specs.FlatText.{FlatRow, scope_row, input_row, constant_row, node_row, name_row, place_row, root_row, row_line}
use Rattle.lucid_flat.specs.FlatTables.{RowFits}

-- a row as definitions speak of it
abbrev pub plain_row : Row → FlatRow
plain_row (Scope r) = scope_row r
plain_row (Input n) = input_row n
plain_row (Constant v) = constant_row (plain v)
plain_row (Node r) = node_row r
plain_row (Name r) = name_row r
plain_row (Place r) = place_row r
plain_row (Root n) = root_row n

-- the line is this row's; or it is no row's
abbrev pub IsRowOf : List ℕ → Option FlatRow → Type 0
IsRowOf line (Some r) = RowFits r × (line ≡ row_line r)
IsRowOf line None = (r : FlatRow) → RowFits r → line ≡ row_line r → ⊥
