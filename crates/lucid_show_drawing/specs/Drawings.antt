-- The grid of a demand.
use Rattle.std.specs.Prelude.{◌≡◌, ℕ, ◌-◌, List, ◌++◌, take, length, All}
use Rattle.std.specs.List.Sorted.{IsPermutation}
use Rattle.lucid_cert_rules.specs.Cells.{is_among}
use Rattle.lucid_cert_rules.specs.Outlines.{Outlines}
use Rattle.lucid_cert_rules.specs.declared.cell.Cell.TheVariants.{Named}
use Rattle.lucid_cert_rules.specs.declared.telling.Entry.{Entry}
use Rattle.lucid_show_grid.specs.Grids.{PlainGrid}
use Rattle.lucid_show_outline.specs.Chosen.{chosen}
use Rattle.lucid_show_outline.specs.Lines.{heading}
use Rattle.lucid_show_outline.specs.Views.{View}
use Rattle.lucid_show_drawing.specs.declared.asked.Asked.{Asked}
use Rattle.lucid_show_drawing.specs.Arrows.{AreArrows, cells_of}
use Rattle.lucid_show_drawing.specs.Looked.{AreTests, boxes_once, looked_at}
use Rattle.lucid_show_drawing.specs.Panels.{ArePanels, PlainRoles}
use Rattle.lucid_show_drawing.specs.Shown.{IsAsked, numbers, test_entries, told_whole}

-- What boxes are, where the output is the judgment of a number: it looked at them itself, or they are those of tests.
abbrev pub roles_at : View → (number : ℕ) → (tests : List ℕ) → PlainRoles
roles_at v number tests = record { is_output = is_among (looked_at v (Named number)); is_test = is_among (boxes_once v tests) }

-- The values that the outline of a judgment tells, and behind them the tests of all searches that ask for nothing.
abbrev pub all_entries : View → (outlined : List Entry) → (tests : List ℕ) → List Entry
all_entries v es tests = es ++ test_entries v tests

-- The grid of the judgment of a number. Of the values that its outline tells whole and of the tests, and of the names that are chosen, it shows the
-- first, so many, each once and none else, in an order of its own; the others are counted. Panels show them in this order, and it numbers the ends of
-- arrows.
pub record IsGridOf (v : View) (most number : ℕ) (g : PlainGrid) : Type 0 where
  pub entries : List Entry
  pub outlined : Outlines v.table v.judgments number entries
  pub tests : List ℕ
  pub are_tests : AreTests v tests
  pub shown : List Asked
  pub asked : All (IsAsked v) shown
  pub each_once : IsPermutation (take most (told_whole (chosen v (all_entries v entries tests)))) (numbers shown)
  pub left_out : g.left_out ≡ length (told_whole (all_entries v entries tests)) - length shown
  pub heading : g.heading ≡ heading v number
  pub panels : ArePanels v (roles_at v number tests) shown g.panels
  pub arrows : AreArrows v (cells_of shown) 0 (cells_of shown) g.arrows
