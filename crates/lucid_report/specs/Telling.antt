-- How a report is written.
use Rattle.std.specs.Prelude.{◌≡◌, ℕ, ◌≤◌, ◌⊎◌, List, length, Result, Ok, Err}
use Rattle.lucid_ports.specs.declared.fault.PortFault.{PortFault}
use Rattle.lucid_ports.specs.declared.fault.PortFault.TheVariants.{Failed, NoMemory}
use Rattle.lucid_ports.specs.Faults.{Rises}
use Rattle.lucid_ports.specs.Writing.{with_front, with_all}
use Rattle.lucid_ports.specs.Told.{Told, WritesNoneLate}
use Rattle.lucid_report.specs.declared.status.Status.{Status}
use Rattle.lucid_report.specs.declared.status.Status.TheVariants as status
use Rattle.lucid_report.specs.Status.{Outcome, status_of}
use Rattle.lucid_report.specs.Lines.{outcome_line}

-- the bytes are written whole; the first of them are written, and nothing else
abbrev pub WritesWhole : List ℕ → (before after : Told) → Type 0
WritesWhole bytes before after = after.bytes ≡ with_all bytes before.bytes

abbrev pub WritesFront : List ℕ → (before after : Told) → Type 0
WritesFront bytes before after = (n : ℕ) × (n ≤ length bytes) × (after.bytes ≡ with_front n bytes before.bytes)

-- A line is written whole; or a front of it, where a write failed, which is counted, or found no memory.
abbrev pub WritesLine : {T : Type 0} → List ℕ → Result T PortFault → (before after : Told) → Type 0
WritesLine line (Ok x) before after = WritesWhole line before after
WritesLine line (Err Failed) before after = WritesFront line before after × Rises before.faults after.faults
WritesLine line (Err NoMemory) before after = WritesFront line before after

-- And nothing is written after a write that failed.
abbrev pub ReportsLine : {T : Type 0} → List ℕ → Result T PortFault → (before after : Told) → Type 0
ReportsLine line result before after = WritesLine line result before after × WritesNoneLate before after

-- The outcome is told: by its status and its line; or by its status and a front of the line, where a write of the report failed; or
-- there was no memory to write the line.
abbrev pub Tells : Outcome → Status → (before after : Told) → Type 0
Tells o s before after =
    ((s ≡ status_of o) × WritesWhole (outcome_line o) before after)
    ⊎ ((s ≡ status_of o) × WritesFront (outcome_line o) before after × Rises before.faults after.faults)
    ⊎ ((s ≡ status.NoMemory) × WritesFront (outcome_line o) before after)
