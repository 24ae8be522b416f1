-- A run of the command, as runs are seen from outside; and what is counted of its program.
use Rattle.std.specs.Prelude.{◌≡◌, ℕ, ◌+◌, ◌-◌, ◌==◌, List, [], length, Option, Some, None, Result, Ok, Err, option_map, unwrap_or, nat_lt, if◌then◌else◌, slice_get, IsSomeAnd}
use Rattle.std.specs.List.{range_with_len}
use Rattle.lucid_ports.specs.World.{World, Place, unread}
use Rattle.lucid_ports.specs.declared.run.Summary.{Summary}
use Rattle.lucid_ports.specs.declared.run.RunFault.{RunFault}
use Rattle.lucid_ports.specs.declared.run.RunFault.TheVariants as fault
use Rattle.lucid_tree.specs.Levels.{Elements}
use Rattle.lucid_scan.specs.Refusals.{most_source_bytes}
use Rattle.lucid_inputs.specs.Streams.{all_bytes}
use Rattle.lucid_session.specs.Runs.{PolicyView, RunView, IsInput, HasElements, Ran}
use Rattle.lucid_ports.specs.Told.{Told}
use Rattle.lucid_session.specs.Figures.{Figures}
use Rattle.lucid_words.specs.Asked.{PlainWords}
use Rattle.lucid_report.specs.declared.stop.Done.TheVariants as done
use Rattle.lucid_report.specs.declared.stop.Stop.TheVariants as stop
use Rattle.lucid_report.specs.Status.{Outcome}
use Rattle.lucid_top.specs.Call.{Call}
use Rattle.lucid_top.specs.Policies.{policy_named}
use Rattle.lucid_equations.specs.declared.table.Table.{Table}
use Rattle.lucid_top.specs.Programs.{Program, of_tree, of_table, of_spaces, program_subject, program_counted}
use Rattle.lucid_top.specs.declared.task.Task.{Task}
use Rattle.lucid_top.specs.declared.task.Task.TheVariants as task
use Rattle.lucid_top.specs.Tasks.{task_of}
use Rattle.lucid_top.specs.Sources.{first_place}
use Rattle.lucid_top.specs.Stages.{asks_for, program_in, inputs_in, IsRun, HasFiles}
use Rattle.lucid_top.specs.Files.{files_for}

-- how many places a call reaches at most: those of the source and of a certificate, and one for each input, of which there are no more than
-- bytes of a text
abbrev pub most_places : ℕ
most_places = most_source_bytes + 2

-- how many bytes of each input may be read: one more than an input may have
abbrev pub most_input_bytes : ℕ
most_input_bytes = 268435456

-- how many places are reached for a certificate that is read: that of its file
abbrev pub certificate_places : Task → ℕ
certificate_places task.Check = 1
certificate_places t = 0

-- The place of the first input: those of the source and of a certificate come before.
abbrev pub first_input : PlainWords → ℕ
first_input w = first_place w.source + certificate_places (task_of w)

-- A run that is asked for, or a certificate: the words, the program and the names of its inputs.
pub record Run : Type 0 where
  pub words : PlainWords
  pub program : Program
  pub inputs : List (List ℕ)

abbrev pub run_of : {c : Call} → IsRun c → Run
run_of r = record { words = (asks_for r.program).words; program = program_in r.program; inputs = inputs_in r.program }

-- what is asked for of a certificate
abbrev pub certificate_of : {c : Call} {t : Task} → HasFiles c t → Run
certificate_of m = record { words = m.names.program.source.asks.words; program = of_tree m.names.program.tree; inputs = m.names.free }

-- the files and the places of its inputs
abbrev pub input_files : Run → List (List ℕ)
input_files p = files_for p.inputs p.words.given

abbrev pub input_places : Run → List ℕ
input_places p = range_with_len (first_input p.words) (length p.inputs)

-- how many places it reaches: those that are read before, and one for each input
abbrev pub run_places : Run → ℕ
run_places p = first_input p.words + length p.inputs

-- the place of an input just reached, at which all that its file holds is left, where that is told
abbrev pub fresh_place : World → (name : List ℕ) → Place
fresh_place w name = record { contents = option_map unread (w.holds name); shown = 0; used = 0 }

-- the place of that number, before anything of an input is read
abbrev pub unread_place : Call → Run → (number : ℕ) → Place
unread_place c p q = fresh_place c.before (unwrap_or (slice_get (input_files p) (q - first_input p.words)) [])

-- The places before the run, with those of all inputs, and after it. An input that was never reached is unread.
abbrev pub world_before : Call → Run → World
world_before c p = record c.before { place = unread_place c p }

abbrev pub world_after : Call → Run → World
world_after c p = record c.after { place = λ q. if nat_lt q c.after.reached then c.after.place q else unread_place c p q }

-- a run by these words of a program with inputs of these names, which are read from these places
abbrev pub viewed : PlainWords → (names : List (List ℕ)) → (places : List ℕ) → (before after : World) → (out_before out_after : Told) → RunView
viewed w names places before after o p = record {
  count = w.count;
  depth = w.depth;
  policy = policy_named w.policy w.age w.room;
  names = names;
  places = places;
  most = most_input_bytes;
  before = before;
  after = after;
  out_before = o;
  out_after = p;
}

-- the same run under this policy
abbrev pub under : PolicyView → RunView → RunView
under policy r = record r { policy = policy }

-- the run of a call, from outside
abbrev pub view_of : Call → Run → RunView
view_of c p = viewed p.words p.inputs (input_places p) (world_before c p) (world_after c p) c.out_before c.out_after

-- a table as these words have it run: its root, or where they name columns, its root at as many spaces
abbrev pub table_program : PlainWords → Table → Program
table_program w t = if length w.columns == 0 then of_table t else of_spaces t (length w.columns)

-- how a run ended that has this outcome; none for an outcome that a run doesn't have
abbrev pub run_result : Outcome → Option (Result Summary RunFault)
run_result (Ok (done.Ran summary stats)) = Some (Ok summary)
run_result (Ok done.Written) = None
run_result (Err (stop.Refused why)) = None
run_result (Err stop.ReadFault) = Some (Err fault.ReadFault)
run_result (Err stop.WriteFault) = Some (Err fault.WriteFault)
run_result (Err (stop.TooDeep time lost cleared stats)) = Some (Err (fault.TooDeep time lost cleared))
run_result (Err (stop.TooLarge stream name)) = Some (Err (fault.TooLarge stream))
run_result (Err (stop.Wrong judgment)) = None
run_result (Err stop.NoMemory) = Some (Err fault.NoMemory)

-- The run of this program, seen so, has this outcome, and what is promised of runs holds of it: the headline and the figures, by the
-- elements of the inputs.
abbrev pub RanSo : Program → RunView → Outcome → Type 0
RanSo p r o = (b : Elements) → HasElements r b
    → IsSomeAnd (run_result o) (λ result. Ran (program_subject p) b r result × Figures (program_counted p) b r result)

-- Of each input what is consumed and what is left are together the bytes that its file holds, where that is told.
abbrev pub GivesBytes : RunView → Type 0
GivesBytes r = (k : ℕ) (n : List ℕ) (q : ℕ) → IsInput r k n q
    → option_map all_bytes (r.after.place q).contents ≡ option_map all_bytes (r.before.place q).contents
