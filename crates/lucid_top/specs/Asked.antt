-- What the words ask for, with what belongs to it.
use Rattle.std.specs.Prelude.{◌≡◌, ◌==◌, List, ℕ, length, Option, Some, None, if◌then◌else◌}
use Rattle.lucid_words.specs.Asked.{PlainWords}
use Rattle.lucid_top.specs.declared.task.Asked.{Asked}
use Rattle.lucid_top.specs.declared.task.Asked.TheVariants as asked
use Rattle.lucid_top.specs.declared.task.Task.{Task}
use Rattle.lucid_top.specs.declared.task.Task.TheVariants as task
use Rattle.lucid_top.specs.Tasks.{form_of}

-- the task alone
abbrev pub task_in : Asked → Task
task_in (asked.Run form) = task.Run
task_in asked.Print = task.Print
task_in (asked.Columns names) = task.Columns
task_in asked.Cycles = task.Cycles
task_in (asked.Why time) = task.Why
task_in (asked.Check file) = task.Check
task_in asked.Flat = task.Flat

-- What belongs to it is what the words say of it.
abbrev pub IsSaidBy : PlainWords → Asked → Type 0
IsSaidBy w (asked.Run form) = form ≡ form_of w
IsSaidBy w asked.Print = Unit {0}
IsSaidBy w (asked.Columns names) = names.now ≡ w.columns
IsSaidBy w asked.Cycles = Unit {0}
IsSaidBy w (asked.Why time) = w.why ≡ Some time
IsSaidBy w (asked.Check file) = file.now ≡ w.check
IsSaidBy w asked.Flat = Unit {0}

-- the columns that are run side by side, where the words name some
abbrev pub columns_asked : PlainWords → Option (List (List ℕ))
columns_asked w = if length w.columns == 0 then None else Some w.columns
