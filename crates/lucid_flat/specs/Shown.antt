-- A text as it is made, row by row.
use Rattle.std.specs.Prelude.{◌≢◌, ℕ, List}
use Rattle.lucid_equations.specs.declared.rows.ScopeKind.TheVariants.{Root}
use Rattle.lucid_texts.specs.TextLines.{ended}
use Rattle.lucid_flat.specs.FlatText.{FlatRow, scope_row, row_line}

-- no row of a root's scope
abbrev pub IsNoRoot : FlatRow → Type 0
IsNoRoot (scope_row r) = r.kind ≢ Root
IsNoRoot _ = Unit {0}

-- the line of a row, ended
abbrev pub line_of : FlatRow → List ℕ
line_of r = ended (row_line r)
