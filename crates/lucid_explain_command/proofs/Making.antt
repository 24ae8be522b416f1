-- A call with an output and a report in memory, and a certificate that it makes.
use Rattle.lucid_explain_command.proofs.Common.{◌≡◌, ℕ, List, [], map, subst, Option, Text, given_file}
use Rattle.lucid_ports.specs.World.{World}
use Rattle.lucid_ports.specs.Told.{Told}
use Rattle.lucid_ports.specs.declared.files.MemoryFile.{MemoryFile}
use Rattle.lucid_report.specs.declared.status.Status.{Status}
use Rattle.lucid_words.specs.Asked.{PlainWords}
use Rattle.lucid_top.specs.Call.{call}
use Rattle.lucid_top.specs.Clauses.{MeetsClauses}
use Rattle.lucid_explain_report.specs.Files.{Files}
use Rattle.lucid_explain_command.specs.Errors.{in_memory, plain_file, as_named, file_read, Adds, why_words, Calls, IsMade}

-- the output is empty before the call
pub out_empty : (asked : Option PlainWords) (w v : World) (bytes : List ℕ) (faults late : ℕ) (out before after : Told) (s : Status) → bytes ≡ [] → faults ≡ 0
    → late ≡ 0 → MeetsClauses (call asked w v (in_memory bytes faults late) out) before after s → MeetsClauses (call asked w v (in_memory [] 0 0) out) before after s
out_empty asked w v bytes faults late out before after s e f l clauses =
    let P : List ℕ → Type 0 = λ z. MeetsClauses (call asked w v (in_memory z faults late) out) before after s in
    let Q : ℕ → Type 0 = λ n. MeetsClauses (call asked w v (in_memory [] n late) out) before after s in
    let R : ℕ → Type 0 = λ n. MeetsClauses (call asked w v (in_memory [] 0 n) out) before after s in
    subst R l (subst Q f (subst P e clauses))

-- a certificate that a call over the files makes
pub made_by : (files : Files) (words again : List Text) (asked : PlainWords) (name : Text) (source : List ℕ) (time : ℕ) (those : List MemoryFile) (found : Option (List ℕ))
    → Adds files (map as_named (map given_file asked.given)) (file_read name source) (map plain_file those) → again ≡ why_words time words
    → Calls again those found → IsMade files words asked name source time found
made_by files words again asked name source time those found read same calls =
    let P : List Text → Type 0 = λ z. Calls z those found in
    record { those = those; again = read; calls = subst P same calls }
