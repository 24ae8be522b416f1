-- The status of each outcome, and the exit code of each status.
use Rattle.std.specs.Prelude.{ℕ, Result, Ok, Err}
use Rattle.lucid_report.specs.declared.refusal.Refusal.{Refusal}
use Rattle.lucid_report.specs.declared.refusal.Refusal.TheVariants as refusal
use Rattle.lucid_report.specs.declared.stop.Done.{Done}
use Rattle.lucid_report.specs.declared.stop.Stop.{Stop}
use Rattle.lucid_report.specs.declared.stop.Stop.TheVariants as stop
use Rattle.lucid_report.specs.declared.status.Status.{Status}
use Rattle.lucid_report.specs.declared.status.Status.TheVariants as status

-- What comes of a call: what it has done, or why it stopped.
abbrev pub Outcome : Type 0
Outcome = Result Done Stop

-- Words are refused with a status of their own, also where they name an input wrongly.
abbrev pub refusal_status : Refusal → Status
refusal_status refusal.Usage = status.Usage
refusal_status (refusal.NotFree name) = status.Usage
refusal_status (refusal.GivenTwice name) = status.Usage
refusal_status _ = status.Refused

abbrev pub stop_status : Stop → Status
stop_status (stop.Refused why) = refusal_status why
stop_status stop.ReadFault = status.ReadFault
stop_status stop.WriteFault = status.WriteFault
stop_status (stop.TooDeep time lost cleared stats) = status.TooDeep
stop_status (stop.TooLarge stream name) = status.TooLarge
stop_status (stop.Wrong judgment) = status.Refused
stop_status stop.NoMemory = status.NoMemory

abbrev pub status_of : Outcome → Status
status_of (Ok done) = status.Done
status_of (Err why) = stop_status why

abbrev pub code_of : Status → ℕ
code_of status.Done = 0
code_of status.Refused = 1
code_of status.Usage = 2
code_of status.ReadFault = 3
code_of status.WriteFault = 4
code_of status.TooDeep = 5
code_of status.TooLarge = 6
code_of status.NoMemory = 7
