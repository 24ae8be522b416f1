-- What the words ask for, and the form of the source that they name.
use Rattle.std.specs.Prelude.{ℕ, Bool, true, false, ◌||◌, ◌==◌, not, length, is_some, unwrap_or, if◌then◌else◌}
use Rattle.lucid_words.specs.Plain.{PlainSource, file, made}
use Rattle.lucid_words.specs.Asked.{PlainWords}
use Rattle.lucid_top.specs.declared.task.Task.{Task}
use Rattle.lucid_top.specs.declared.task.Task.TheVariants as task
use Rattle.lucid_top.specs.declared.task.Form.{Form}
use Rattle.lucid_top.specs.declared.task.Form.TheVariants as form

-- The option that asks for something else than a run, or a run. Words with two of these options are refused.
abbrev pub task_of : PlainWords → Task
task_of w =
    if w.print then task.Print
    else (if not (length w.columns == 0) then task.Columns
    else (if w.cycles then task.Cycles
    else (if is_some w.why then task.Why
    else (if not (length w.check == 0) then task.Check
    else (if w.flat then task.Flat
    else task.Run)))))

abbrev pub form_for : PlainSource → (from_flat : Bool) → Form
form_for (made n) from_flat = form.Made
form_for (file name) true = form.Flat
form_for (file name) false = form.Text

abbrev pub form_of : PlainWords → Form
form_of w = form_for w.source w.from_flat

-- whether a certificate is made or checked
abbrev pub is_certificate : Task → Bool
is_certificate task.Why = true
is_certificate task.Check = true
is_certificate t = false

-- the time of the value whose certificate is asked for
abbrev pub time_asked : PlainWords → ℕ
time_asked w = unwrap_or w.why 0

abbrev pub is_made : PlainSource → Bool
is_made (made n) = true
is_made (file name) = false

-- The figures of a run are reported where `--stats` is given, and of each made program.
abbrev pub wants_figures : PlainWords → Bool
wants_figures w = w.stats || is_made w.source
