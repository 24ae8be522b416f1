use Rattle.lucid_cert_rules.proofs.FollowingCommon.{sym, ap, ◌∙◌, subst}
use Rattle.lucid_equations.specs.declared.step.Place.{Place}
use Rattle.lucid_equations.specs.Steps.{step_after, step_plan, EndsSearch, StepInside}
use Rattle.lucid_equations.proofs.Looks.{after_ends}
use Rattle.lucid_cert_rules.specs.Told.{looked_from}
use Rattle.lucid_cert_rules.proofs.rest.Look.decide.Goals as goal

pub taken-requires : goal.taken-requires
taken-requires c = subst EndsSearch (sym c.after.ensures) (after_ends c.args.form c.place.result c.args.answer c.requires)

pub returns-clause-plan : goal.returns-clause-plan
returns-clause-plan c m vs =
    c.taken.ensures.plan c.args.form (looked_from c.args.self c.args.self.time 0) m vs
    ∙ ap (step_plan c.args.form (looked_from c.args.self c.args.self.time 0))
    (c.after.ensures ∙ ap (λ (p : Place). step_after c.args.form p c.args.answer) c.place.ensures)

pub returns-clause-inside : goal.returns-clause-inside
returns-clause-inside c n h =
    c.taken.ensures.inside n
    (subst (StepInside n) (sym (c.after.ensures ∙ ap (λ (p : Place). step_after c.args.form p c.args.answer) c.place.ensures)) h)
