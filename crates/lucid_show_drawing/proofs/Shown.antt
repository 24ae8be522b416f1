-- The parts of a grid.
use Rattle.lucid_show_drawing.proofs.Common.{◌≡◌, List, subst}
use Rattle.lucid_show_grid.specs.Grids.{PlainPanel}
use Rattle.lucid_show_grid.specs.declared.grid.Arrow.{Arrow}
use Rattle.lucid_show_outline.specs.Views.{View}
use Rattle.lucid_show_drawing.specs.declared.asked.Asked.{Asked}
use Rattle.lucid_show_drawing.specs.Arrows.{AreArrows, cells_of}
use Rattle.lucid_show_drawing.specs.Panels.{ArePanels, PlainRoles}

pub grid_panels : (v : View) (roles same_roles : PlainRoles) (xs ys : List Asked) (ps : List PlainPanel) → roles ≡ same_roles → xs ≡ ys
    → ArePanels v roles xs ps → ArePanels v same_roles ys ps
grid_panels v roles same_roles xs ys ps same e h =
    subst (λ (r : PlainRoles). ArePanels v r ys ps) same (subst (λ (z : List Asked). ArePanels v roles z ps) e h)

pub grid_arrows : (v : View) (xs ys : List Asked) (more : List Arrow) → xs ≡ ys → AreArrows v (cells_of xs) 0 (cells_of xs) more
    → AreArrows v (cells_of ys) 0 (cells_of ys) more
grid_arrows v xs ys more e h = subst (λ (z : List Asked). AreArrows v (cells_of z) 0 (cells_of z) more) e h
