use Rattle.std.proofs.Common.{ℕ, List, ◌++◌, map, sym, subst}
use Rattle.lucid_cert_rules.specs.Certificates.{plain_judgment}
use Rattle.lucid_explain_errors.specs.Ways.{Leads}
use Rattle.lucid_explain_errors.proofs.Walking.{leads_on, leads_here, step_falls}
use Rattle.lucid_explain_errors.proofs.ways.find_way.Goals as goal

pub steps-init : goal.steps-init
steps-init c = λ more end leads.
    let P : List ℕ → Type 0 = λ z. Leads c.args.traced (map plain_judgment c.args.judgments.now) c.args.number (z ++ more) end in
    subst P (sym c.new-passed.ensures.items) leads

pub steps-preserved : goal.steps-preserved
steps-preserved c = λ more end leads.
    leads_on c.args.traced (map plain_judgment c.args.judgments.now) c.args.number c.steps.at c.in-Some.next end c.steps.passed.items _ more
    c.steps.invariant (sym c.in-Some.ensures) c.in_ok-push.ensures.items leads

pub steps-smaller : goal.steps-smaller
steps-smaller c = step_falls c.args.traced (map plain_judgment c.args.judgments.now) c.steps.at c.in-Some.next (sym c.in-Some.ensures)

pub returns : goal.returns
returns c =
    let none = rw c.in_default.is at c.step_from.ensures in
    leads_here c.args.traced (map plain_judgment c.args.judgments.now) c.args.number c.steps.at c.steps.passed.items c.steps.invariant (sym none)
