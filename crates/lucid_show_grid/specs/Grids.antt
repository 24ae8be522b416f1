-- Grids in plain form.
use Rattle.std.specs.Prelude.{ℕ, Bool, List, map}
use Rattle.lucid_show_grid.specs.declared.grid.Kind.{Kind}
use Rattle.lucid_show_grid.specs.declared.grid.Mark.{Mark}
use Rattle.lucid_show_grid.specs.declared.grid.Line.{Line}
use Rattle.lucid_show_grid.specs.declared.grid.Panel.{Panel}
use Rattle.lucid_show_grid.specs.declared.grid.Arrow.{Arrow}
use Rattle.lucid_show_grid.specs.declared.grid.Grid.{Grid}

-- a value: its time, what it is in the demand, whether the output needed it itself, its text, and what is told of it where it is pointed at
pub record PlainMark : Type 0 where
  pub time : ℕ
  pub kind : Kind
  pub is_output : Bool
  pub value : List ℕ
  pub told : List ℕ

abbrev pub plain_mark : Mark → PlainMark
plain_mark m = record { time = m.time; kind = m.kind; is_output = m.is_output; value = m.value.items; told = m.told.items }

-- a name, or a test's text, and its values
pub record PlainLine : Type 0 where
  pub label : List ℕ
  pub marks : List PlainMark

abbrev pub plain_line : Line → PlainLine
plain_line l = record { label = l.label.items; marks = map plain_mark l.marks.items }

-- what its context is, the times across, and its lines
pub record PlainPanel : Type 0 where
  pub title : List ℕ
  pub times : List ℕ
  pub lines : List PlainLine

abbrev pub plain_panel : Panel → PlainPanel
plain_panel p = record { title = p.title.items; times = p.times.items; lines = map plain_line p.lines.items }

-- a heading, panels, arrows between values by their numbers, and how many values are left out
pub record PlainGrid : Type 0 where
  pub heading : List ℕ
  pub panels : List PlainPanel
  pub arrows : List Arrow
  pub left_out : ℕ

abbrev pub plain_grid : Grid → PlainGrid
plain_grid g = record { heading = g.heading.items; panels = map plain_panel g.panels.items; arrows = g.arrows.items; left_out = g.left_out }
