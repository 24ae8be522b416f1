-- A run that was noted.
use Rattle.std.specs.Prelude.{ℕ, List, [], Option, Some}
use Rattle.lucid_ports.specs.World.{World}
use Rattle.lucid_ports.specs.Told.{Told}
use Rattle.lucid_words.specs.Asked.{PlainWords}
use Rattle.lucid_report.specs.declared.status.Status.{Status}
use Rattle.lucid_top.specs.Call.{call}
use Rattle.lucid_top.specs.Clauses.{MeetsClauses}

-- an output in memory that never fails, with these bytes
abbrev pub output : List ℕ → Told
output bytes = record { bytes = Some bytes; faults = 0; late = 0 }

-- The clauses of the command hold of these words, these lines and this status: so the lines are those that `lucid` writes.
abbrev pub RunsAsLucid : Option PlainWords → (before after : World) → (report_before report_after : Told) → (lines : List ℕ) → Status → Type 0
RunsAsLucid asked before after report_before report_after lines status =
    MeetsClauses (call asked before after (output []) (output lines)) report_before report_after status
