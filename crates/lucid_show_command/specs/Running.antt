-- What is shown of a run: its steps, under the policy of its words.
use Rattle.std.specs.Prelude.{◌≡◌, ◌⊎◌, ℕ, List, [], Option, Some, None, Ok, Err}
use Rattle.clap.specs.Words.{Text}
use Rattle.lucid_ports.specs.Faults.{Rises}
use Rattle.lucid_ports.specs.Told.{Told}
use Rattle.lucid_ports.specs.World.{World}
use Rattle.lucid_words.specs.Asked.{words_asked}
use Rattle.lucid_explain_report.specs.Files.{Files, Held, holds, unread, gone, IsSeen}
use Rattle.lucid_explain_report.specs.Said.{past_source}
use Rattle.lucid_report.specs.Status.{Outcome}
use Rattle.lucid_report.specs.Telling.{Tells, WritesFront, WritesWhole}
use Rattle.lucid_report.specs.declared.refusal.Refusal.{Refusal}
use Rattle.lucid_report.specs.declared.status.Status.{Status}
use Rattle.lucid_report.specs.declared.status.Status.TheVariants as status
use Rattle.lucid_report.specs.declared.stop.Stop.TheVariants as stop
use Rattle.lucid_top.specs.Writing.{WritesOnly}
use Rattle.lucid_show_steps.specs.Events.{PlainEvent}
use Rattle.lucid_show_steps.specs.Names.{NamesOf, RefusesSource}
use Rattle.lucid_show_steps.specs.Runs.{RunsAsLucid}
use Rattle.lucid_show_steps.specs.Steps.{steps_of}
use Rattle.lucid_show_steps.specs.Texts.{run_text}
use Rattle.lucid_show_steps.specs.declared.names.Names.{Names}
use Rattle.lucid_show_command.specs.Words.{PlainSteps}

-- an output in memory that has these bytes, with so many faults and late calls
abbrev pub in_memory : List ℕ → (faults late : ℕ) → Told
in_memory bytes faults late = record { bytes = Some bytes; faults = faults; late = late }

-- A line is reported with a status: whole; or a front of it, where a write of the report failed; or there was no memory to write the line.
abbrev pub TellsLine : (line : List ℕ) → (wanted : Status) → Status → (before after : Told) → Type 0
TellsLine line wanted s before after =
    ((s ≡ wanted) × WritesWhole line before after)
    ⊎ (((s ≡ wanted) × WritesFront line before after × Rises before.faults after.faults) ⊎ ((s ≡ status.NoMemory) × WritesFront line before after))

-- The command `lucid` runs by the words, with its lines, the line of its report, and its status.
pub record RunsInMemory (words : List Text) (before after : World) (lines line : List ℕ) (s : Status) : Type 0 where
  pub faults : ℕ
  pub late : ℕ
  pub runs : RunsAsLucid (words_asked words) before after (in_memory [] 0 0) (in_memory line faults late) lines s

-- The names of a program are told by its source, as it is read again: unless that can't be, or the source is refused.
abbrev pub AreNamesBy : Held → Option Names → Type 0
AreNamesBy (holds source) (Some names) = NamesOf source names
AreNamesBy (holds source) None = (why : Refusal) × RefusesSource source why
AreNamesBy unread names = names ≡ None
AreNamesBy gone names = names ≡ None

abbrev pub AreNames : Files → (program : Text) → Option Names → Type 0
AreNames files program names = (seen : Held) × IsSeen files program past_source seen × AreNamesBy seen names

-- The text tells the steps of a run with these lines, by what was noted of it: so many lines of values at most, and the names of the program's file.
pub record IsTextOfSteps (files : Files) (wanted : PlainSteps) (lines : List ℕ) (text : List ℕ) : Type 0 where
  pub names : Option Names
  pub named : AreNames files wanted.program names
  pub notes : List PlainEvent
  pub is : text ≡ run_text names wanted.most (steps_of notes) lines

-- A run whose steps were written is reported as `lucid` reports it; else why they weren't.
abbrev pub TellsRun : (written : Outcome) → (line : List ℕ) → (its : Status) → Status → (before after : Told) → Type 0
TellsRun (Ok done) line its s before after = TellsLine line its s before after
TellsRun (Err why) line its s before after = Tells (Err why) s before after

-- What comes of words of a run: `lucid` runs by them, in memory; the text of its steps is written, or where a write failed a front of it; and its
-- report is told.
pub record ShowsRun (files : Files) (wanted : PlainSteps) (before after : World) (out_before out_after report_before report_after : Told) (s : Status) : Type 0 where
  pub lines : List ℕ
  pub line : List ℕ
  pub its : Status
  pub runs : RunsInMemory wanted.words before after lines line its
  pub written : Outcome
  pub writes : WritesOnly (IsTextOfSteps files wanted lines) out_before out_after written
  pub tells : TellsRun written line its s report_before report_after

-- So it is, or there was no memory for it: then nothing is read and nothing is written.
pub data MayLack (P : (before after : World) (out_before out_after report_before report_after : Told) → Status → Type 0) (before after : World)
    (out_before out_after report_before report_after : Told) (s : Status) : Type 0 where
  done : P before after out_before out_after report_before report_after s → MayLack P before after out_before out_after report_before report_after s
  lacks : after ≡ before → out_after.bytes ≡ out_before.bytes → Tells (Err stop.NoMemory) s report_before report_after
      → MayLack P before after out_before out_after report_before report_after s
