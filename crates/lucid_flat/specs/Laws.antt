-- Laws of texts. Each is proved as the contract of a function of the same name.
use Rattle.std.specs.Prelude.{◌≡◌, ℕ, List}
use Rattle.lucid_equations.specs.declared.table.Table.{Table}
use Rattle.lucid_flat.specs.FlatTables.{IsTextOf}

-- No bytes are the text of two tables.
abbrev pub OneTable : Type 0
OneTable = (bytes : List ℕ) (t u : Table) → IsTextOf bytes t → IsTextOf bytes u → t ≡ u
