use Rattle.std.proofs.Common.{ap, sym, ◌∙◌, ℕ, Vec, Global}
use Rattle.lucid_retire.specs.Policies.{keeps_all, empties_all, most_held}
use Rattle.lucid_session.specs.Runs.{policy_view}
use Rattle.lucid_show_steps.specs.Runs.{output}
use Rattle.lucid_show_steps.proofs.Ran.{as_lucid}
use Rattle.lucid_show_steps.proofs.run.run_noted.Goals as goal

pub returns-clause-runs : goal.returns-clause-runs
returns-clause-runs g c =
    as_lucid _ _ _ _ _ _ _ _ _ _
    (ap (λ policy. policy_view keeps_all empties_all most_held policy) c.make-2.ensures ∙ c.in_ok-policy.ensures)
    (ap output c.make-out.ensures)
    (ap (λ (v : Vec ℕ Global). output v.items) (sym c.into_bytes-lines.ensures))
    c.lucid_under-status.ensures.clauses
