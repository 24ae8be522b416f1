-- How a call comes to its outcome, as its parts say it.
use Rattle.std.specs.Prelude.{◌≡◌, ◌≢◌, ℕ, ◌<◌, ◌≤◌, ◌⊎◌, ◌-◌, ◌^◌, [], length, Some, None, Err}
use Rattle.lucid_ports.specs.World.{World, Contents}
use Rattle.lucid_ports.specs.Faults.{AsksNoneLate}
use Rattle.lucid_tree.specs.WellMade.{IsWellMade}
use Rattle.lucid_words.specs.declared.Words.{Words}
use Rattle.lucid_words.specs.Asked.{PlainWords, plain_words}
use Rattle.lucid_words.specs.Numbers.{IsFromToIfGiven, MadeIsFromTo}
use Rattle.lucid_top.specs.declared.task.Task.{Task}
use Rattle.lucid_report.specs.declared.refusal.Refusal.{Refusal}
use Rattle.lucid_report.specs.declared.stop.Stop.TheVariants as stop
use Rattle.lucid_equations.specs.declared.table.Table.{Table}
use Rattle.lucid_compile.specs.Settled.{table_of as tree_table}
use Rattle.lucid_ports.specs.Told.{WritesNoneLate}
use Rattle.lucid_session.specs.Runs.{RunView}
use Rattle.lucid_report.specs.Status.{Outcome}
use Rattle.lucid_top.specs.Tasks.{task_of, form_of, time_asked}
use Rattle.lucid_top.specs.Programs.{beside}
use Rattle.lucid_top.specs.Tables.{HasSoundTable}
use Rattle.lucid_top.specs.Places.{KeepsNames, CountsNoRead, CountsNoWrite, ReadsSource, ReadsCertificate, most_read}
use Rattle.lucid_top.specs.Sources.{first_place}
use Rattle.lucid_top.specs.Names.{source_names, names_for, AsksFront}
use Rattle.lucid_top.specs.Checks.{ChecksTree}
use Rattle.lucid_top.specs.Makes.{MakesTree}
use Rattle.lucid_top.specs.declared.task.Form.TheVariants as form
use Rattle.lucid_top.specs.declared.task.Task.TheVariants as task
use Rattle.lucid_top.specs.Call.{Call}
use Rattle.lucid_top.specs.Stages.{Asks, IsWriting, IsTextFor, WantsInputs, HasProgram, by_tree, by_columns, by_table, columns_named, task_for, program_in, inputs_in, IsRun, IsMaking, MayCheck, IsCheck, HasNames, Refuses, by_words, by_text, by_flat, by_names, by_missing, by_judging, by_given, by_certificate}
use Rattle.lucid_top.specs.Runs.{Run, most_places, first_input, run_places, run_of, certificate_of, unread_place, view_of, under, table_program, RanSo, GivesBytes}
use Rattle.lucid_top.specs.Clauses.{WritesNothing, ComesOnly, Writes}

-- The tree of a program that is run is well made.
abbrev pub IsMade : {c : Call} → HasProgram c → Type 0
IsMade (by_tree n) = IsWellMade n.program.tree
IsMade (by_columns h) = IsWellMade (beside h.names.program.tree (columns_named h.names))
IsMade (by_table f) = Unit {0}

-- Nothing is read of the places of the inputs that are reached: each has what its file holds.
abbrev pub AreJustReached : Call → Run → Type 0
AreJustReached c p = (q : ℕ) → first_input p.words ≤ q → q < c.after.reached → (c.after.place q).contents ≡ (unread_place c p q).contents

-- No place is reached; or, where the words are read, at most that of the source; or, in a run or where a certificate is made, at most those
-- of the source and the inputs; or, of a tree for which a certificate may be checked, at most that of its file too, and in a check those of
-- the inputs too.
pub data Reaches (c : Call) : Type 0 where
  reaches_nothing : c.after.reached ≡ 0 → Reaches c
  reaches_source : (a : Asks c) → c.after.reached ≤ first_place a.words.source → Reaches c
  reaches_inputs : (r : IsRun c) → IsMade r.program → c.after.reached ≤ run_places (run_of r) → AreJustReached c (run_of r) → Reaches c
  reaches_certificate : (m : MayCheck c) → IsWellMade m.names.program.tree → c.after.reached ≤ first_input m.names.program.source.asks.words → Reaches c
  reaches_checked : (k : IsCheck c) → IsWellMade k.may.names.program.tree → c.after.reached ≤ run_places (certificate_of k.may) → Reaches c
  reaches_made : (m : IsMaking c) → IsWellMade m.names.program.tree → c.after.reached ≤ run_places (certificate_of m) → Reaches c

-- Little is reached, nothing is written, and of no input is anything consumed.
pub record Rests (c : Call) : Type 0 where
  pub reaches : Reaches c
  pub silent : WritesNothing c
  pub unread : (w : PlainWords) → c.asked ≡ Some w → (q : ℕ) → first_input w ≤ q → q < c.after.reached
      → (new : Contents) → (c.after.place q).contents ≡ Some new → new.consumed ≡ []

-- The tree of a refusal that comes after it was read is well made.
abbrev pub IsOfMade : {c : Call} {why : Refusal} → Refuses c why → Type 0
IsOfMade (by_words none) = Unit {0}
IsOfMade (by_text s form refused) = Unit {0}
IsOfMade (by_flat s form refused) = Unit {0}
IsOfMade (by_names t task refused) = IsWellMade t.tree
IsOfMade (by_missing n task refused) = Unit {0}
IsOfMade (by_judging n task refused) = IsWellMade n.program.tree
IsOfMade (by_given p task refused) = IsMade p
IsOfMade (by_certificate m bytes is refused) = IsWellMade m.names.program.tree

-- What stops a call before a run or a text begins. Nothing is read where the words are refused.
abbrev pub StopsEarly : Call → Outcome → Type 0
StopsEarly c (Err (stop.Refused why)) = (r : Refuses c why) × IsOfMade r
StopsEarly c (Err stop.ReadFault) = Asks c
StopsEarly c (Err stop.NoMemory) = Unit {0}
StopsEarly c _ = ⊥

-- A run, whose inputs are all reached and give the bytes of their files; or a text, for which the source alone is; or a check or a certificate, whose inputs are all reached.
abbrev pub EndsRun : Call → Outcome → Type 0
EndsRun c o =
    (r : IsRun c) × IsMade r.program × RanSo (run_of r).program (under c.policy (view_of c (run_of r))) o × (c.after.reached ≡ run_places (run_of r))
    × GivesBytes (view_of c (run_of r))

abbrev pub EndsWriting : Call → Outcome → Type 0
EndsWriting c o = (x : IsWriting c) × Writes c o (IsTextFor x) × ((a : Asks c) × (c.after.reached ≤ first_place a.words.source))

abbrev pub Checked : Call → Outcome → Type 0
Checked c o =
    (k : IsCheck c) × IsWellMade k.may.names.program.tree × ChecksTree k.may.names.program.tree k.why (view_of c (certificate_of k.may)) o
    × (c.after.reached ≡ run_places (certificate_of k.may))

abbrev pub Made : Call → Outcome → Type 0
Made c o =
    (m : IsMaking c) × IsWellMade m.names.program.tree × MakesTree m.names.program.tree (view_of c (certificate_of m)) (time_asked (certificate_of m).words) o
    × (c.after.reached ≡ run_places (certificate_of m))

pub record Comes (c : Call) (o : Outcome) : Type 0 where
  pub only : ComesOnly c o
  pub how : (StopsEarly c o × Rests c) ⊎ (EndsRun c o ⊎ (EndsWriting c o ⊎ (Checked c o ⊎ Made c o)))
  pub few_places : c.after.reached ≤ most_places

-- What the words ask for may begin: they were read, they ask for this, of a text where it is no run, and no place is reached yet.
pub record MayBegin (words : Words) (t : Task) (v : World) : Type 0 where
  pub made : MadeIsFromTo 1 10000 words.source
  pub columns : length (plain_words words).columns ≤ 16
  pub text : t ≢ task.Run → form_of (plain_words words) ≢ form.Flat
  pub time : IsFromToIfGiven 0 (2 ^ 63 - 1) words.why
  pub task : task_of (plain_words words) ≡ t
  pub none : v.reached ≡ 0

-- It asks for a front of the names that it may: that of the source alone; or of a program whose inputs are wanted, also those behind it.
pub data AsksSo (c : Call) (w : PlainWords) : Type 0 where
  asks_source : AsksFront (source_names w.source) c.before c.after → AsksSo c w
  asks_inputs : (p : HasProgram c) → IsMade p → WantsInputs p → AsksFront (names_for w (inputs_in p)) c.before c.after → AsksSo c w

-- What a call does: it comes to its outcome, counts no fault but that of its outcome, asks for nothing after a fault, and of its source and of a
-- certificate reads no more than may be read.
pub record Does (c : Call) (o : Outcome) : Type 0 where
  pub comes : Comes c o
  pub counts_no_read : CountsNoRead o c.before c.after
  pub counts_no_write : CountsNoWrite o c.out_before.faults c.out_after.faults
  pub read_late : AsksNoneLate c.before c.after
  pub write_late : WritesNoneLate c.out_before c.out_after
  pub within : (w : PlainWords) → c.asked ≡ Some w → ReadsSource (most_read (form_of w)) w.source c.after
  pub certificate : (w : PlainWords) → c.asked ≡ Some w → ReadsCertificate w c.after
  pub asks : (w : PlainWords) → c.asked ≡ Some w → AsksSo c w
  pub unasked : c.asked ≡ None → c.after.asked ≡ c.before.asked

-- A call is about to run a table, its source being read: it has a program with the table's inputs, its words ask for that, and runs of the
-- table as they have it are runs of the program.
pub record RunsTable (c : Call) (w : PlainWords) (t : Table) (v : World) : Type 0 where
  pub read : c.asked ≡ Some w
  pub program : HasProgram c
  pub task : task_of w ≡ task_for program
  pub made : IsMade program
  pub inputs : inputs_in program ≡ t.inputs
  pub runs : (r : RunView) (o : Outcome) → RanSo (table_program w t) r o → RanSo (program_in program) r o
  pub kept : KeepsNames c.before v
  pub first : v.reached ≡ first_place w.source

-- A call is about to make or to check a certificate by a table, its source being read: it is that of the tree, and the words ask for that.
pub record ProvesTable (c : Call) (k : Task) (w : PlainWords) (t : Table) (v : World) : Type 0 where
  pub read : c.asked ≡ Some w
  pub names : HasNames c
  pub task : task_of w ≡ k
  pub made : IsWellMade names.program.tree
  pub is : t ≡ tree_table names.program.tree names.free
  pub table : HasSoundTable names.program.tree names.free
  pub kept : KeepsNames c.before v
  pub first : v.reached ≡ first_place w.source
