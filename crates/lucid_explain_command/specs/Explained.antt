-- What a call that explains does: what the command does with the same words, with more behind its report.
use Rattle.std.specs.Prelude.{◌≡◌, ℕ, Bool, true, false, ◌&&◌, List, length, codes, ◌==◌, Result, Ok, Err, ◌⊎◌, Vec}
use Rattle.std.specs.Global.{Global}
use Rattle.std.specs.declared.alloc.AllocError.{AllocError}
use Rattle.clap.specs.Words.{Text}
use Rattle.lucid_ports.specs.declared.fault.PortFault.{PortFault}
use Rattle.lucid_ports.specs.declared.fault.PortFault.TheVariants.{Failed, NoMemory}
use Rattle.lucid_ports.specs.Told.{Told}
use Rattle.lucid_report.specs.declared.status.Status.{Status}
use Rattle.lucid_report.specs.declared.status.Status.TheVariants as status
use Rattle.lucid_top.specs.Call.{Call}
use Rattle.lucid_top.specs.Clauses.{MeetsOutcome}
use Rattle.lucid_report.specs.declared.stop.Stop.{Stop}
use Rattle.lucid_report.specs.declared.stop.Stop.TheVariants as stop
use Rattle.lucid_report.specs.Status.{Outcome, status_of}
use Rattle.lucid_report.specs.Lines.{outcome_line}
use Rattle.lucid_report.specs.Telling.{WritesWhole, WritesLine}
use Rattle.lucid_explain_report.specs.Files.{Files}
use Rattle.lucid_explain_report.specs.Stops.{stop_text}
use Rattle.lucid_explain_report.specs.Said.{IsExplanation}
use Rattle.lucid_explain_command.specs.Help.{help_text}
use Rattle.lucid_explain_command.specs.Prompted.{IsPrompt}
use Rattle.lucid_explain_command.specs.Keeping.{IsRead}
use Rattle.lucid_explain_command.specs.Noting.{Seen, Notes}
use Rattle.lucid_explain_command.specs.declared.behind.Behind.{Behind}
use Rattle.lucid_explain_command.specs.declared.behind.Behind.TheVariants as behind
use Rattle.lucid_explain_command.specs.Behind.{behind_of, has_count, SaysCount, wrote_values, may_note, SaysNote}
use Rattle.lucid_explain_command.specs.Errors.{SaysError}

-- what is said where there is no memory for what would be said
abbrev pub unsaid_text : List ℕ
unsaid_text = codes "There is not memory enough to explain this.\n"

-- a text, or that there was no memory for it
abbrev pub or_unsaid : Result (Vec ℕ Global) AllocError → List ℕ
or_unsaid (Ok text) = text.items
or_unsaid (Err error) = unsaid_text

-- A text is reported: whole, or a front of it where a write failed.
abbrev pub Writes : (text : List ℕ) → (before after : Told) → Type 0
Writes text before after = (written : Result (Unit {0}) PortFault) × WritesLine text written before after

-- Such a text is reported so, or that there was no memory for it.
abbrev pub WritesText : (IsText : List ℕ → Type 0) → (before after : Told) → Type 0
WritesText IsText before after = (text : List ℕ) × (IsText text ⊎ (text ≡ unsaid_text)) × Writes text before after

-- Before the call nothing is reported, but where the standard input is a terminal.
abbrev pub Prompts : (files : Files) → (words : List Text) → (terminal : Bool) → (before after : Told) → Type 0
Prompts files words false before after = after ≡ before
Prompts files words true before after = WritesText (IsPrompt files words) before after

-- No memory is wanted to explain that the output can't be written, that an input is too large, or want of memory.
abbrev pub wants_memory : Stop → Bool
wants_memory stop.WriteFault = false
wants_memory (stop.TooLarge stream name) = false
wants_memory stop.NoMemory = false
wants_memory _ = true

-- What explains a stop is reported; of a call without words, its help.
abbrev pub ReportsExplanation : (is_bare : Bool) → (files : Files) → (words : List Text) → (source : List ℕ) → Stop → (before after : Told) → Type 0
ReportsExplanation true files words source why before after = Writes help_text before after
ReportsExplanation false files words source why before after = WritesText (IsExplanation files words source why) before after

-- So it is; or where no memory is wanted, what is said of the stop alone.
abbrev pub ReportsStop : (wants : Bool) → (files : Files) → (words : List Text) → (source : List ℕ) → Stop → (before after : Told) → Type 0
ReportsStop true files words source why before after = ReportsExplanation (length words == 0) files words source why before after
ReportsStop false files words source why before after = Writes (stop_text why) before after

-- Of a call that is done nothing is reported.
abbrev pub ReportsCause : (files : Files) → (words : List Text) → (source : List ℕ) → Outcome → (before after : Told) → Type 0
ReportsCause files words source (Ok done) before after = after ≡ before
ReportsCause files words source (Err why) before after = ReportsStop (wants_memory why) files words source why before after

-- what comes of a write that failed so, and the status of a call whose line that cut off
abbrev pub failed : PortFault → Result (Unit {0}) PortFault
failed fault = Err fault

abbrev pub cut_status : PortFault → Outcome → Status
cut_status Failed o = status_of o
cut_status NoMemory o = status.NoMemory

-- The line of an outcome is reported: cut off, where a write failed or there was no memory; or whole, and behind it what explains the outcome.
pub data Reports (files : Files) (words : List Text) (source : List ℕ) (o : Outcome) (s : Status) (before after : Told) : Type 0 where
  cut_off : (fault : PortFault) → WritesLine (outcome_line o) (failed fault) before after → s ≡ cut_status fault o → Reports files words source o s before after
  whole : (between : Told) → WritesWhole (outcome_line o) before between → ReportsCause files words source o between after → s ≡ status_of o
      → Reports files words source o s before after

-- How many lines a run writes is reported where no word gives it.
abbrev pub ReportsCount : (words : List Text) → (is_given : Bool) → (before after : Told) → Type 0
ReportsCount words true before after = after ≡ before
ReportsCount words false before after = WritesText (SaysCount words) before after

-- Behind this it is reported where a value came from, or how many lines a run writes, or nothing.
abbrev pub ReportsBehind : (files : Files) → (terminal : Bool) → (words : List Text) → (source : List ℕ) → Behind → (before after : Told) → Type 0
ReportsBehind files terminal words source (behind.Value time) before after = WritesText (SaysError files terminal words source time) before after
ReportsBehind files terminal words source behind.Count before after = ReportsCount words (has_count words) before after
ReportsBehind files terminal words source behind.Nothing before after = after ≡ before

-- What is noted of the source is reported where something may be noted.
abbrev pub ReportsNote : (words : List Text) → (source : List ℕ) → (may : Bool) → (before after : Told) → Type 0
ReportsNote words source true before after = WritesText (SaysNote words source) before after
ReportsNote words source false before after = after ≡ before

-- The clauses hold of the call and of its outcome, whose line and status are told; and behind the line stands what explains that very outcome, by what
-- the call read of its source. Where the standard input is a terminal, what is read from there stands before the line. Behind all stands where an
-- `error` came from, or how many lines a run writes, by what is noted of the bytes that were written; and behind the values of a short program what is noted of it.
pub record IsExplained (files : Files) (terminal : Bool) (words : List Text) (c : Call) (source : List ℕ) (seen : Seen) (report_before report_after : Told) (s : Status) : Type 0 where
  pub outcome : Outcome
  pub met : MeetsOutcome c outcome
  pub read : IsRead c.after source
  pub between : Told
  pub prompts : Prompts files words terminal report_before between
  pub noted : Notes c.out_after.bytes seen
  pub halfway : Told
  pub reports : Reports files words source outcome s between halfway
  pub almost : Told
  pub more : ReportsBehind files terminal words source (behind_of s seen) halfway almost
  pub note : ReportsNote words source (wrote_values s seen && may_note words source outcome) almost report_after
