-- The panels of a grid: one for each context, with a line for each name or test and space, in which each value stands at its time.
use Rattle.std.specs.Prelude.{◌≡◌, ◌≢◌, ◌==◌, ◌<◌, ℕ, Bool, false, List, [], ◌∷◌, ◌++◌, map, length, Option, Some, None, slice_get, if◌then◌else◌, All}
use Rattle.std.specs.List.{AllZip}
use Rattle.lucid_value.specs.Plain.{PlainValue, truth}
use Rattle.lucid_cert_rules.specs.Cells.{is_among}
use Rattle.lucid_cert_rules.specs.Certificates.{PlainJudgment}
use Rattle.lucid_cert_rules.specs.declared.cell.Cell.{Cell}
use Rattle.lucid_show_grid.specs.Grids.{PlainMark, PlainLine, PlainPanel}
use Rattle.lucid_show_grid.specs.declared.grid.Kind.{Kind}
use Rattle.lucid_show_grid.specs.declared.grid.Kind.TheVariants.{Leaf, Inner, Test}
use Rattle.lucid_show_outline.specs.Views.{View}
use Rattle.lucid_show_drawing.specs.declared.asked.Asked.{Asked}
use Rattle.lucid_show_drawing.specs.declared.roles.Roles.{Roles}
use Rattle.lucid_show_drawing.specs.Labels.{label_text, title_text, told_text, value_text}
use Rattle.lucid_show_drawing.specs.Looked.{AreOnce, looked_at}

-- which boxes the output looked at itself, and which are tests
pub record PlainRoles : Type 0 where
  pub is_output : Cell → Bool
  pub is_test : Cell → Bool

abbrev pub plain_roles : Roles → PlainRoles
plain_roles r = record { is_output = is_among r.outputs.keys; is_test = is_among r.tests.keys }

-- a test holds where its value is `true`
unfoldable pub is_true : PlainValue → Bool
is_true (truth b) = b
is_true _ = false

unfoldable pub holds_for : Option PlainJudgment → Bool
holds_for (Some j) = is_true j.value
holds_for None = false

-- What a box is: a test, which holds or doesn't; one that needed no other; or any other.
unfoldable pub kind_by : (is_test holds : Bool) → (looked : List Cell) → Kind
kind_by t h cs = if t then Test h else if length cs == 0 then Leaf else Inner

abbrev pub kind_of : View → PlainRoles → Asked → Kind
kind_of v roles a = kind_by (roles.is_test a.cell) (holds_for (slice_get v.judgments a.number)) (looked_at v a.cell)

-- A value as it is drawn: at its time, what it is, whether the output looked at it itself, its text, and what is told of it.
pub record IsMark (v : View) (roles : PlainRoles) (a : Asked) (m : PlainMark) : Type 0 where
  pub drawn : m ≡ record { time = a.spot.time; kind = kind_of v roles a; is_output = roles.is_output a.cell; value = value_text v a; told = told_text v a }

-- A line of values, which stand in one row: a mark for each, in order, under the label of the first.
pub record IsLine (v : View) (roles : PlainRoles) (these : List Asked) (first : Asked) (l : PlainLine) : Type 0 where
  pub front : slice_get these 0 ≡ Some first
  pub same : All (λ (a : Asked). a.spot.row ≡ first.spot.row) these
  pub label : l.label ≡ label_text v first
  pub marks : AllZip (IsMark v roles) these l.marks

-- One line for each row.
pub data AreLines (v : View) (roles : PlainRoles) : List Asked → List PlainLine → Type 0 where
  no_line : AreLines v roles [] []
  line : {these more : List Asked} {l : PlainLine} {ls : List PlainLine} → (first : Asked) → IsLine v roles these first l
      → All (λ (a : Asked). a.spot.row ≢ first.spot.row) more → AreLines v roles more ls → AreLines v roles (these ++ more) (l ∷ ls)

-- The times across are those of the values, each once, in order.
abbrev pub times_of : List Asked → List ℕ
times_of xs = map (λ (a : Asked). a.spot.time) xs

abbrev pub AreTimes : (of : List Asked) → (times : List ℕ) → Type 0
AreTimes of times = AreOnce (times_of of) times

-- A panel of values, which stand in one context.
pub record IsPanel (v : View) (roles : PlainRoles) (context : ℕ) (these : List Asked) (p : PlainPanel) : Type 0 where
  pub some : 0 < length these
  pub same : All (λ (a : Asked). a.spot.context ≡ context) these
  pub title : p.title ≡ title_text v context these
  pub times : AreTimes these p.times
  pub lines : AreLines v roles these p.lines

-- One panel for each context.
pub data ArePanels (v : View) (roles : PlainRoles) : List Asked → List PlainPanel → Type 0 where
  no_panel : ArePanels v roles [] []
  panel : {these more : List Asked} {p : PlainPanel} {ps : List PlainPanel} → (context : ℕ) → IsPanel v roles context these p
      → All (λ (a : Asked). a.spot.context ≢ context) more → ArePanels v roles more ps → ArePanels v roles (these ++ more) (p ∷ ps)
