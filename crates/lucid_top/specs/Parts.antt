-- How the contracts of a call's parts speak of it: by its places and its output, as they are when a part begins and when it ends.
use Rattle.std.specs.Prelude.{ℕ, List, Option, Some}
use Rattle.lucid_ports.specs.World.{World}
use Rattle.lucid_ports.specs.Told.{Told, told}
use Rattle.lucid_words.specs.Asked.{PlainWords}
use Rattle.lucid_equations.specs.declared.table.Table.{Table}
use Rattle.lucid_session.specs.Runs.{PolicyView}
use Rattle.lucid_report.specs.Status.{Outcome}
use Rattle.lucid_top.specs.declared.task.Task.{Task}
use Rattle.lucid_top.specs.Call.{Call, call_under}
use Rattle.lucid_top.specs.Coming.{Comes, RunsTable, ProvesTable}

-- the call with these words, under this policy, whose places and output are of any kind and tell so of themselves
abbrev pub call_of : {P K : Type 0} → (world : P → World) → (written : K → Option (List ℕ)) → (faults late : K → ℕ) → PolicyView → Option PlainWords
    → (before after : P) → (out_before out_after : K) → Call
call_of world written faults late policy asked v w o p =
    call_under policy asked (world v) (world w) (told written faults late o) (told written faults late p)

-- A run of the table begins where the source was read. Whatever the places were when the call began, if it is about to run the table, it comes
-- to this outcome.
abbrev pub ComesOfRun : PolicyView → PlainWords → Table → (reached after : World) → (out_before out_after : Told) → Outcome → Type 0
ComesOfRun policy w t v after o p result =
    (before : World) → RunsTable (call_under policy (Some w) before after o p) w t v → Comes (call_under policy (Some w) before after o p) result

-- So it is where a certificate is made or checked by the table, under any policy.
abbrev pub ComesOfProof : Task → PlainWords → Table → (reached after : World) → (out_before out_after : Told) → Outcome → Type 0
ComesOfProof k w t v after o p result =
    (policy : PolicyView) (before : World)
    → ProvesTable (call_under policy (Some w) before after o p) k w t v → Comes (call_under policy (Some w) before after o p) result
