use Rattle.lucid_cert_rules.proofs.NeedCommon.{List, ap, refl, sym, ℕ, ◌∙◌, ◌∷◌}
use Rattle.lucid_cert_rules.specs.Needs.{no_more}
use Rattle.lucid_cert_rules.proofs.Walking.{stands_alike}
use Rattle.lucid_cert_rules.proofs.walk.needs.Goals as goal

pub steps-init : goal.steps-init
steps-init c = λ all comes. stands_alike (c.in_ok-push.ensures ∙ ap (λ (w : List ℕ). c.args.number ∷ w) c.new-waiting.ensures) c.new.ensures.empty c.new-2.ensures.empty c.new-3.ensures.items comes

pub steps-preserved : goal.steps-preserved
steps-preserved c = λ all comes. c.steps.invariant all (stands_alike (sym c.in-Some.ensures) refl refl refl (c.in_ok-step.ensures all comes))

pub returns-in_default : goal.returns-in_default
returns-in_default c =
    let none = rw c.in_default.is at c.pop.ensures in
    rw c.replace.ensures.value (c.steps.invariant c.steps.walk.found.items (stands_alike (sym none.0) refl refl refl no_more))
