-- Lines that were read, and what reading a text answers.
use Rattle.std.specs.Prelude.{◌≡◌, ℕ, false, if◌then◌else◌, List, [], ◌∷◌, map, Result, Ok, Err}
use Rattle.lucid_equations.specs.declared.table.Table.{Table}
use Rattle.lucid_flat.specs.declared.read.FlatLines.{FlatLines}
use Rattle.lucid_flat.specs.declared.read.FlatRefusal.{FlatRefusal}
use Rattle.lucid_flat.specs.declared.read.FlatRefusal.TheVariants.{Form, NoMemory}
use Rattle.lucid_flat.specs.FlatText.{FlatRow, row_line, first_line}
use Rattle.lucid_flat.specs.FlatTables.{IsFirstWrongLine}
use Rattle.lucid_flat.specs.Gathered.{rows_in, AreBegun}

-- the first line and those of some rows
abbrev pub lines_of_rows : List FlatRow → List (List ℕ)
lines_of_rows rs = first_line ∷ map row_line rs

-- the lines so far
abbrev pub lines_in : FlatLines → List (List ℕ)
lines_in l = if l.has_first then lines_of_rows (rows_in l.rows) else []

-- the rows begin a text, and before the first line there is none
pub record AreKept (l : FlatLines) : Type 0 where
  pub begun : AreBegun l.rows
  pub none : l.has_first ≡ false → rows_in l.rows ≡ []

-- why bytes are refused: they are no table's text, from the line on; or for want of memory
abbrev pub IsTextRefused : (bytes : List ℕ) → FlatRefusal → Type 0
IsTextRefused bytes (Form line) = IsFirstWrongLine bytes line
IsTextRefused bytes NoMemory = Unit {0}

-- the table is given, unless there is no memory
abbrev pub Gives : Result Table FlatRefusal → Table → Type 0
Gives (Ok u) t = u ≡ t
Gives (Err (Form line)) t = ⊥
Gives (Err NoMemory) t = Unit {0}
