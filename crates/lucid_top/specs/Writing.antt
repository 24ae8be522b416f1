-- What the outcome of writing a text says of the output.
use Rattle.std.specs.Prelude.{◌≡◌, ℕ, ◌⊎◌, List, Ok, Err}
use Rattle.lucid_ports.specs.Faults.{Rises}
use Rattle.lucid_ports.specs.Told.{Told}
use Rattle.lucid_report.specs.declared.stop.Done.TheVariants as done
use Rattle.lucid_report.specs.declared.stop.Stop.TheVariants as stop
use Rattle.lucid_report.specs.Status.{Outcome}
use Rattle.lucid_report.specs.Telling.{WritesWhole, WritesFront}

-- A text of a kind is written whole; a front of one is written.
abbrev pub WritesSome : (IsText : List ℕ → Type 0) → (before after : Told) → Type 0
WritesSome IsText before after = (text : List ℕ) × IsText text × WritesWhole text before after

abbrev pub WritesSomeFront : (IsText : List ℕ → Type 0) → (before after : Told) → Type 0
WritesSomeFront IsText before after = (text : List ℕ) × IsText text × WritesFront text before after

-- A text of a kind is written whole; or a front of it, where a write failed, which is counted; or that or nothing, where there was no
-- memory.
abbrev pub WritesOnly : (IsText : List ℕ → Type 0) → (before after : Told) → Outcome → Type 0
WritesOnly IsText before after (Ok done.Written) = WritesSome IsText before after
WritesOnly IsText before after (Err stop.WriteFault) = WritesSomeFront IsText before after × Rises before.faults after.faults
WritesOnly IsText before after (Err stop.NoMemory) = (after.bytes ≡ before.bytes) ⊎ WritesSomeFront IsText before after
WritesOnly IsText before after _ = ⊥
