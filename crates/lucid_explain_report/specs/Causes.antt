-- What explains why a call was stopped: what of its source, a certificate, files, or the reason alone.
use Rattle.std.specs.Prelude.{Bool, true, false, ◌&&◌, not, ◌==◌, length, Option, Some, None, if◌then◌else◌}
use Rattle.lucid_words.specs.Plain.{PlainSource, file, made}
use Rattle.lucid_words.specs.Asked.{PlainWords}
use Rattle.lucid_explain_source.specs.declared.fault.Fault.{Fault}
use Rattle.lucid_explain_source.specs.declared.fault.Fault.TheVariants as faults
use Rattle.lucid_report.specs.declared.refusal.Refusal.{Refusal}
use Rattle.lucid_report.specs.declared.refusal.Refusal.TheVariants as refusal
use Rattle.lucid_report.specs.declared.stop.Stop.{Stop}
use Rattle.lucid_report.specs.declared.stop.Stop.TheVariants as stop
use Rattle.lucid_explain_report.specs.declared.causes.Cause.{Cause}
use Rattle.lucid_explain_report.specs.declared.causes.Cause.TheVariants as cause

-- the fault of a source for which a call is refused
abbrev pub fault_of : Refusal → Option Fault
fault_of refusal.TooLong = Some faults.TooLong
fault_of (refusal.BadByte at) = Some (faults.BadByte at)
fault_of (refusal.OpenText at) = Some (faults.OpenText at)
fault_of (refusal.BigNumber at) = Some (faults.BigNumber at)
fault_of (refusal.Syntax at) = Some (faults.Syntax at)
fault_of (refusal.TooNested at) = Some (faults.TooNested at)
fault_of (refusal.Twice at) = Some (faults.Twice at)
fault_of (refusal.NoFunction at) = Some (faults.NoFunction at)
fault_of (refusal.NotFunction at) = Some (faults.NotFunction at)
fault_of (refusal.IsFunction at) = Some (faults.IsFunction at)
fault_of (refusal.Arity at wanted given) = Some (faults.Arity at wanted given)
fault_of _ = None

-- of a source that is accepted: what of it explains a refusal
abbrev pub program_cause : Refusal → Cause
program_cause (refusal.NoColumn name) = cause.Columns
program_cause (refusal.NotJudged at) = cause.Place at
program_cause refusal.NoInput = cause.Inputs
program_cause (refusal.NotFree name) = cause.Free
program_cause _ = cause.Alone

abbrev pub fault_or : Option Fault → Cause → Cause
fault_or (Some fault) other = cause.Source fault
fault_or None other = other

abbrev pub refusal_cause : Refusal → Cause
refusal_cause why = fault_or (fault_of why) (program_cause why)

-- by the source of a program in a file
abbrev pub source_cause : Stop → Cause
source_cause (stop.Refused why) = refusal_cause why
source_cause stop.ReadFault = cause.Files
source_cause (stop.TooDeep time lost cleared stats) = cause.Depth time
source_cause (stop.Wrong judgment) = cause.Judgment judgment
source_cause _ = cause.Alone

-- where there is no such source
abbrev pub other_cause : Stop → Cause
other_cause stop.ReadFault = cause.Files
other_cause _ = cause.Alone

-- of columns, of which the source isn't what is run
abbrev pub of_columns : Cause → Cause
of_columns cause.Inputs = cause.Alone
of_columns cause.Free = cause.Alone
of_columns (cause.Depth time) = cause.Alone
of_columns other = other

abbrev pub is_file : PlainSource → Bool
is_file (file name) = true
is_file (made number) = false

-- the words name the file of a program in source form
abbrev pub reads_source : PlainWords → Bool
reads_source asked = is_file asked.source && not asked.from_flat

-- the words ask for columns
abbrev pub asks_columns : PlainWords → Bool
asks_columns asked = not (length asked.columns == 0)

abbrev pub file_cause : PlainWords → Stop → Cause
file_cause asked why = if asks_columns asked then of_columns (source_cause why) else source_cause why

abbrev pub cause_of : PlainWords → Stop → Cause
cause_of asked why = if reads_source asked then file_cause asked why else other_cause why
