-- A run of the command under a policy that is noted.
use Rattle.std.proofs.Common.{◌≡◌, ℕ, List, [], Option, subst}
use Rattle.lucid_ports.specs.World.{World}
use Rattle.lucid_ports.specs.Told.{Told}
use Rattle.lucid_words.specs.Asked.{PlainWords}
use Rattle.lucid_session.specs.Runs.{PolicyView}
use Rattle.lucid_report.specs.declared.status.Status.{Status}
use Rattle.lucid_top.specs.Call.{call_under}
use Rattle.lucid_top.specs.Clauses.{MeetsClauses}
use Rattle.lucid_top.specs.Policies.{policy_by}
use Rattle.lucid_show_steps.specs.Runs.{output, RunsAsLucid}

-- it is a run of `lucid`, where the policy is that of the words
pub as_lucid : (p : PolicyView) (asked : Option PlainWords) (before after : World) (o q r s : Told) (lines : List ℕ) (status : Status) → p ≡ policy_by asked → o ≡ output []
    → q ≡ output lines → MeetsClauses (call_under p asked before after o q) r s status → RunsAsLucid asked before after r s lines status
as_lucid p asked before after o q r s lines status policy none written meets =
    subst (λ (x : Told). MeetsClauses (call_under (policy_by asked) asked before after (output []) x) r s status) written
    (subst (λ (x : Told). MeetsClauses (call_under (policy_by asked) asked before after x q) r s status) none
    (subst (λ (x : PolicyView). MeetsClauses (call_under x asked before after o q) r s status) policy meets))
