-- When something may be decided of a row, and the values of an operator's arguments.
use Rattle.std.specs.Prelude.{◌≡◌, ℕ, ◌<◌, length, true, List, Option, Some, None, option_map}
use Rattle.lucid_value.specs.Plain.{PlainValue}
use Rattle.lucid_value.specs.View.{plain}
use Rattle.lucid_tags.specs.Contexts.{Context}
use Rattle.lucid_tags.specs.Known.{IsKnown}
use Rattle.lucid_tasks.specs.declared.Task.{Task}
use Rattle.lucid_tasks.specs.Rows as rows
use Rattle.lucid_tasks.specs.Rows.{TaskRow, got_of, is_ready}
use Rattle.lucid_equations.specs.Rows.{row_at}
use Rattle.lucid_equations.specs.declared.table.Table.{Table}
use Rattle.lucid_demand_steps.specs.Tasks.{plain_task}
use Rattle.lucid_demand_steps.specs.Parts.{moved}
use Rattle.lucid_demand_steps.specs.Justified.{argument_by}

-- A ready row in a slot, which has the task, in a known context; and its node doesn't only move the point.
pub record IsReadyRow (T : Table) (known : List Context) (forest : List (Option TaskRow)) (slot : ℕ) (task : Task) (row : TaskRow) : Type 0 where
  pub there : rows.row_at forest slot ≡ Some row
  pub ready : is_ready (Some row) ≡ true
  pub is_task : row.task ≡ task
  pub known_tag : IsKnown known task.tag
  pub still : moved T (plain_task known task) ≡ None

-- A decision may be taken: the slot has a ready row, whose task is in the table.
pub record MayDecide (T : Table) (known : List Context) (forest : List (Option TaskRow)) (slot : ℕ) : Type 0 where
  pub row : TaskRow
  pub is : IsReadyRow T known forest slot row.task row
  pub in_table : row.task.node < length T.nodes

-- the value of an operator's argument in a slot's row: the part's, or a constant's
abbrev pub argument_of : Table → List (Option TaskRow) → (slot index node : ℕ) → Option PlainValue
argument_of T forest slot i n = argument_by T (row_at T n) (option_map plain (got_of forest (record { slot = slot; index = i })))
