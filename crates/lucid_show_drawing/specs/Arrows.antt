-- The arrows of a grid.
use Rattle.std.specs.Prelude.{◌≡◌, ℕ, ◌+◌, false, List, [], ◌∷◌, ◌++◌, map, Some, slice_get}
use Rattle.lucid_cert_rules.specs.Cells.{is_among}
use Rattle.lucid_cert_rules.specs.declared.cell.Cell.{Cell}
use Rattle.lucid_show_grid.specs.declared.grid.Arrow.{Arrow}
use Rattle.lucid_show_outline.specs.Views.{View}
use Rattle.lucid_show_drawing.specs.declared.asked.Asked.{Asked}
use Rattle.lucid_show_drawing.specs.Looked.{looked_at}

abbrev pub cells_of : List Asked → List Cell
cells_of xs = map (λ (a : Asked). a.cell) xs

-- An arrow goes from the cell of a number to each of these cells that is drawn, where it is drawn, and to no other.
pub data GoTo (drawn : List Cell) (from : ℕ) : List Cell → List Arrow → Type 0 where
  nowhere : GoTo drawn from [] []
  there : {c : Cell} {cs : List Cell} {more : List Arrow} → (to : ℕ) → slice_get drawn to ≡ Some c → GoTo drawn from cs more
      → GoTo drawn from (c ∷ cs) (record { from = from; to = to } ∷ more)
  left_out : {c : Cell} {cs : List Cell} {more : List Arrow} → is_among drawn c ≡ false → GoTo drawn from cs more → GoTo drawn from (c ∷ cs) more

-- From each cell, which have numbers from one on, arrows go to those at which it looked.
pub data AreArrows (v : View) (drawn : List Cell) : (from : ℕ) → List Cell → List Arrow → Type 0 where
  no_more : {i : ℕ} → AreArrows v drawn i [] []
  one : {i : ℕ} {c : Cell} {cs : List Cell} {these more : List Arrow} → GoTo drawn i (looked_at v c) these → AreArrows v drawn (i + 1) cs more
      → AreArrows v drawn i (c ∷ cs) (these ++ more)
