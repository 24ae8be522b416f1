-- The outline of a demand.
use Rattle.std.specs.Prelude.{◌≡◌, ℕ, ◌+◌, Bool, true, false, List, [], ◌∷◌, ◌++◌, map, Some, None}
use Rattle.lucid_equations.specs.declared.table.Table.{Table}
use Rattle.lucid_cert_rules.specs.Certificates.{PlainJudgment}
use Rattle.lucid_cert_rules.specs.declared.cell.Cell.{Cell}
use Rattle.lucid_cert_rules.specs.declared.cell.Cell.TheVariants.{Named, Element}
use Rattle.lucid_cert_rules.specs.declared.telling.Entry.{Entry}
use Rattle.lucid_cert_rules.specs.Cells.{asked_at, is_among}
use Rattle.lucid_cert_rules.specs.Needs.{Needs}

-- a line of an outline that is still to be told: the judgment that asks, and how deep
pub record Line : Type 0 where
  pub asked : ℕ
  pub depth : ℕ

abbrev pub lines_at : (depth : ℕ) → List ℕ → List Line
lines_at d found = map (λ i. record { asked = i; depth = d }) found

abbrev pub entry : Line → (above : Bool) → Entry
entry l above = record { asked = l.asked; depth = l.depth; above = above }

-- What a cell was computed from: an element of an input from nothing.
pub data CellNeeds (T : Table) (js : List PlainJudgment) : Cell → (found : List ℕ) → Type 0 where
  of_element : {stream time : ℕ} → CellNeeds T js (Element stream time) []
  of_name : {i : ℕ} {found : List ℕ} → Needs T js i found → CellNeeds T js (Named i) found

-- Lines are told in order, where these cells were told. A cell is told once whole, and under it, one deeper, what it was computed from; further on
-- it is told that it stands above. What asks for nothing isn't told.
pub data Tells (T : Table) (js : List PlainJudgment) : (waiting : List Line) → (told : List Cell) → List Entry → Type 0 where
  no_more : {told : List Cell} → Tells T js [] told []
  no_cell : {l : Line} {more : List Line} {told : List Cell} {es : List Entry} → asked_at T js l.asked ≡ None → Tells T js more told es → Tells T js (l ∷ more) told es
  above : {l : Line} {more : List Line} {told : List Cell} {es : List Entry} → (c : Cell) → asked_at T js l.asked ≡ Some c → is_among told c ≡ true
      → Tells T js more told es → Tells T js (l ∷ more) told (entry l true ∷ es)
  whole : {l : Line} {more : List Line} {told : List Cell} {es : List Entry} → (c : Cell) → asked_at T js l.asked ≡ Some c → is_among told c ≡ false
      → (found : List ℕ) → CellNeeds T js c found → Tells T js (lines_at (l.depth + 1) found ++ more) (told ++ c ∷ []) es
      → Tells T js (l ∷ more) told (entry l false ∷ es)

-- The outline of the judgment of a number: what it was computed from is told, at depth 1.
abbrev pub Outlines : Table → List PlainJudgment → (number : ℕ) → List Entry → Type 0
Outlines T js i es = (found : List ℕ) × Needs T js i found × Tells T js (lines_at 1 found) [] es
