-- A call with a report in memory, and a text that is reported.
use Rattle.std.proofs.Common.{Global, Vec, inl, inr, refl}
use Rattle.std.specs.Prelude.{Result, Ok, Err, IfOk}
use Rattle.std.specs.declared.alloc.AllocError.{AllocError}
use Rattle.lucid_explain_command.proofs.Common.{◌≡◌, ℕ, List, [], subst}
use Rattle.lucid_ports.specs.Told.{Told}
use Rattle.lucid_report.specs.declared.status.Status.{Status}
use Rattle.lucid_top.specs.Call.{Call}
use Rattle.lucid_top.specs.Clauses.{MeetsClauses}
use Rattle.lucid_explain_command.specs.Errors.{in_memory}
use Rattle.lucid_explain_command.specs.Explained.{unsaid_text, or_unsaid, Writes, WritesText}

-- the report is empty before the call
pub begun_empty : (c : Call) (bytes : List ℕ) (faults late : ℕ) (after : Told) (s : Status) → bytes ≡ [] → faults ≡ 0 → late ≡ 0
    → MeetsClauses c (in_memory bytes faults late) after s
    → MeetsClauses c (in_memory [] 0 0) after s
begun_empty c bytes faults late after s e f l clauses =
    let P : List ℕ → Type 0 = λ z. MeetsClauses c (in_memory z faults late) after s in
    let Q : ℕ → Type 0 = λ n. MeetsClauses c (in_memory [] n late) after s in
    let R : ℕ → Type 0 = λ n. MeetsClauses c (in_memory [] 0 n) after s in
    subst R l (subst Q f (subst P e clauses))

-- a text that was made is reported, or that there was no memory for it
pub writes_made : (made : Result (Vec ℕ Global) AllocError) (IsText : List ℕ → Type 0) (before after : Told) → IfOk made (λ text. IsText text.items)
    → Writes (or_unsaid made) before after → WritesText IsText before after
writes_made (Ok text) IsText before after is writes = (text.items, inl is, writes)
writes_made (Err error) IsText before after is writes = (unsaid_text, inr refl, writes)
