-- The laws of grids: which boxes are shown, and between which of them arrows go.
use Rattle.std.specs.Prelude.{◌≡◌, ◌⊎◌, ℕ, List, Some, None, slice_get}
use Rattle.lucid_tree.specs.Members.{In}
use Rattle.lucid_equations.specs.declared.table.Table.{Table}
use Rattle.lucid_cert_rules.specs.Certificates.{PlainJudgment}
use Rattle.lucid_cert_rules.specs.Cells.{asked_at}
use Rattle.lucid_cert_rules.specs.NeedLaws.{Leads}
use Rattle.lucid_cert_rules.specs.declared.cell.Cell.{Cell}
use Rattle.lucid_cert_rules.specs.declared.cell.Cell.TheVariants.{Named, Element}
use Rattle.lucid_show_grid.specs.Grids.{PlainGrid}
use Rattle.lucid_show_grid.specs.declared.grid.Arrow.{Arrow}
use Rattle.lucid_show_outline.specs.Laws.{UsesAreEarlier}
use Rattle.lucid_show_outline.specs.Searches.{tests}
use Rattle.lucid_show_outline.specs.Views.{View}
use Rattle.lucid_show_drawing.specs.Arrows.{cells_of}
use Rattle.lucid_show_drawing.specs.Drawings.{IsGridOf}
use Rattle.lucid_show_drawing.specs.Looked.{box_at, others}

-- The judgment of a number was computed from a cell: it leads to a judgment that asks for the cell.
abbrev pub IsUsedBy : Table → List PlainJudgment → (number : ℕ) → Cell → Type 0
IsUsedBy T js i c = (k : ℕ) × Leads T js i k × (asked_at T js k ≡ Some c)

-- A cell was computed from another: from those that its judgment was; an element of an input from none.
abbrev pub Uses : Table → List PlainJudgment → Cell → Cell → Type 0
Uses T js (Named i) c = IsUsedBy T js i c
Uses T js (Element k t) c = ⊥

-- The judgment of a number demands a cell: it was computed from the cell, or from one that was computed from it, and so on.
pub data IsDemanded (T : Table) (js : List PlainJudgment) (number : ℕ) : Cell → Type 0 where
  by_output : {c : Cell} → IsUsedBy T js number c → IsDemanded T js number c
  by_cell : {b c : Cell} → IsDemanded T js number b → Uses T js b c → IsDemanded T js number c

-- The judgment of a number is there, asks for nothing, and is a test of a search of the certificate.
pub record IsTest (v : View) (number : ℕ) : Type 0 where
  pub judgment : PlainJudgment
  pub there : slice_get v.judgments number ≡ Some judgment
  pub asks : asked_at v.table v.judgments number ≡ None
  pub search : PlainJudgment
  pub of : In search v.judgments
  pub tested : In number (tests v search)

-- Each box that is shown is of a cell that is demanded, or of a test. Where nothing is left out, each cell that is demanded is shown, and each test.
abbrev pub WhatIsDemandedIsShown : Type 0
WhatIsDemandedIsShown =
    (v : View) (most number : ℕ) (g : PlainGrid) (is : IsGridOf v most number g)
    → ((c : Cell) → In c (cells_of is.shown) → IsDemanded v.table v.judgments number c ⊎ ((i : ℕ) × IsTest v i × (c ≡ Named i)))
    × (g.left_out ≡ 0 → (c : Cell) → IsDemanded v.table v.judgments number c → In c (cells_of is.shown))
    × (g.left_out ≡ 0 → (i : ℕ) → IsTest v i → In (Named i) (cells_of is.shown))

-- The judgment of a number looked at another, which asks or is a test of its search: through others that ask for nothing and aren't tests.
pub data LooksAt (v : View) : (from to : ℕ) → Type 0 where
  itself : {i : ℕ} {c : Cell} → asked_at v.table v.judgments i ≡ Some c → LooksAt v i i
  tested : {i t : ℕ} {j : PlainJudgment} → asked_at v.table v.judgments i ≡ None → slice_get v.judgments i ≡ Some j → In t (tests v j) → LooksAt v i t
  through : {i u k : ℕ} {j : PlainJudgment} → asked_at v.table v.judgments i ≡ None → slice_get v.judgments i ≡ Some j → In u (others v j) → LooksAt v u k
      → LooksAt v i k

-- A box looked at another.
abbrev pub Looks : View → Cell → Cell → Type 0
Looks v (Named i) c = (k : ℕ) × LooksAt v i k × (box_at v k ≡ c)
Looks v (Element k t) c = ⊥

-- It goes from a box to one at which that looked.
pub record IsOfLook (v : View) (drawn : List Cell) (a : Arrow) : Type 0 where
  pub at_begin : Cell
  pub at_end : Cell
  pub begins : slice_get drawn a.from ≡ Some at_begin
  pub ends : slice_get drawn a.to ≡ Some at_end
  pub looks : Looks v at_begin at_end

-- Each arrow is of a look. Where judgments use earlier ones alone, as those do that follow, one goes from each box that is shown to each at which it
-- looked, where that is shown too.
abbrev pub ArrowsAreLooks : Type 0
ArrowsAreLooks =
    (v : View) (most number : ℕ) (g : PlainGrid) (is : IsGridOf v most number g)
    → ((a : Arrow) → In a g.arrows → IsOfLook v (cells_of is.shown) a)
    × (UsesAreEarlier v.judgments → (i : ℕ) (c d : Cell) → slice_get (cells_of is.shown) i ≡ Some c → Looks v c d → In d (cells_of is.shown)
    → (k : ℕ) × (slice_get (cells_of is.shown) k ≡ Some d) × ((a : Arrow) × (a.from ≡ i) × (a.to ≡ k) × In a g.arrows))

-- The judgment of a number saw a cell: it looked at a judgment that asks for the cell, or at a test that saw the cell.
pub data Sees (v : View) : (number : ℕ) → Cell → Type 0 where
  at_once : {i k : ℕ} {c : Cell} → LooksAt v i k → asked_at v.table v.judgments k ≡ Some c → Sees v i c
  past : {i t : ℕ} {c : Cell} → LooksAt v i t → asked_at v.table v.judgments t ≡ None → Sees v t c → Sees v i c

-- What a judgment was computed from is what it saw. So arrows lead from a value, past tests alone, exactly to those from which it was computed.
abbrev pub LooksAreUses : Type 0
LooksAreUses = (v : View) (i : ℕ) (c : Cell) → (IsUsedBy v.table v.judgments i c → Sees v i c) × (Sees v i c → IsUsedBy v.table v.judgments i c)
