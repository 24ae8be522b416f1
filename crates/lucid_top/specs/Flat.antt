-- What becomes of a source in the flat form: it is too long, or no table's text, or the text of a table with a wrong row; or of a sound table.
use Rattle.std.specs.Prelude.{◌≡◌, ℕ, ◌<◌, ◌≤◌, List, length}
use Rattle.lucid_equations.specs.Sound.{IsSound}
use Rattle.lucid_equations.specs.declared.table.Table.{Table}
use Rattle.lucid_flat.specs.FlatTables.{IsTextOf, IsFirstWrongLine}
use Rattle.lucid_flat.specs.WrongRows.{IsTableRefused}
use Rattle.lucid_flat.specs.declared.program.BuildRefusal.{BuildRefusal}
use Rattle.lucid_report.specs.declared.refusal.Refusal.{Refusal}
use Rattle.lucid_report.specs.declared.refusal.Refusal.TheVariants as refusal
use Rattle.lucid_report.specs.declared.stop.Stop.TheVariants as stop
use Rattle.lucid_report.specs.Refusals.{build_stop}

-- how many bytes a source in the flat form may have
abbrev pub most_flat_bytes : ℕ
most_flat_bytes = 67108864

-- The source isn't too long, and it is the text of the table.
pub record HasTable (source : List ℕ) (t : Table) : Type 0 where
  pub short : length source ≤ most_flat_bytes
  pub text : IsTextOf source t

-- The source is the text of a sound table.
pub record SpellsTable (source : List ℕ) (t : Table) : Type 0 where
  pub has : HasTable source t
  pub sound : IsSound t

-- The source is refused so.
pub data RefusesFlat (source : List ℕ) : (why : Refusal) → Type 0 where
  by_length : most_flat_bytes < length source → RefusesFlat source refusal.TooLong
  by_line : {line : ℕ} → length source ≤ most_flat_bytes → IsFirstWrongLine source line → RefusesFlat source (refusal.NoFlatLine line)
  by_row : {why : Refusal} → (t : Table) (e : BuildRefusal) → build_stop e ≡ stop.Refused why → HasTable source t → IsTableRefused t e → RefusesFlat source why
