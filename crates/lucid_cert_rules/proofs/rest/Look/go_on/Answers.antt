use Rattle.lucid_cert_rules.proofs.FollowingCommon.{◌≡◌, ◌+◌, [], ◌∷◌, ◌++◌, ap, ◌∙◌, subst, arith, gives, Then}
use Rattle.lucid_value.specs.View.{plain}
use Rattle.lucid_equations.specs.declared.step.Given.{Given}
use Rattle.lucid_equations.specs.Steps.{given_value}
use Rattle.lucid_equations.proofs.Looks.{after_inside}
use Rattle.lucid_cert_rules.specs.RestPlans.{rest_plan, IsAfter}
use Rattle.lucid_cert_rules.specs.Told.{looked_from}
use Rattle.lucid_cert_rules.specs.declared.rest.Then.TheVariants as then
use Rattle.lucid_cert_rules.proofs.GoesOn.{goes_judge, goes_decide, goes_find, goes_count}
use Rattle.lucid_cert_rules.proofs.Inside.{parts_by, point_by}
use Rattle.lucid_cert_rules.proofs.rest.Look.go_on.Goals as goal

pub returns-in-Decide-clause-stands : goal.returns-in-Decide-clause-stands
returns-in-Decide-clause-stands c k h = c.decide.ensures.stands (k + 1)

pub returns-in-Judge-clause-stands : goal.returns-in-Judge-clause-stands
returns-in-Judge-clause-stands c k h = c.settled.ensures.stands (k + 1)

pub returns-in-Count-clause-stands : goal.returns-in-Count-clause-stands
returns-in-Count-clause-stands c k h = c.count.ensures.stands (k + 1)

pub returns-in-Decide-clause-plan : goal.returns-in-Decide-clause-plan
returns-in-Decide-clause-plan c m k most vs h l =
    goes_decide most m vs c.args.self.part c.args.self.time c.args.self.space (plain c.args.value.now) c.of-answer.result c.of-answer.ensures.answer
    c.args.self.then (rest_plan m (vs ++ plain c.args.value.now ∷ []) c.decide.result) c.in-Decide.form c.in-Decide.is
    (c.decide.ensures.plan m (vs ++ plain c.args.value.now ∷ []))

pub returns-in-Judge-clause-plan : goal.returns-in-Judge-clause-plan
returns-in-Judge-clause-plan c m k most vs h l =
    goes_judge most m vs c.args.self.part c.args.self.time c.args.self.space (plain c.args.value.now) c.of-answer.result c.of-answer.ensures.answer
    c.args.self.then (rest_plan m (vs ++ plain c.args.value.now ∷ []) c.settled.result) c.in-Judge.is
    (c.settled.ensures.plan m (vs ++ plain c.args.value.now ∷ []) ∙ ap (λ (g : Given). gives (given_value g)) c.judged.ensures)

pub returns-in-Find-clause-plan : goal.returns-in-Find-clause-plan
returns-in-Find-clause-plan c m k most vs h l =
    let at : c.args.self.time ≡ k = subst (λ (x : Then). IsAfter k x c.args.self.part c.args.self.time) c.in-Find.is h in
    goes_find most m vs c.args.self.part c.args.self.time c.args.self.space (plain c.args.value.now) c.of-answer.result c.of-answer.ensures.answer
    c.args.self.then (rest_plan m (vs ++ plain c.args.value.now ∷ []) c.find.result)
    c.in-Find.wanted c.in-Find.is (c.find.ensures.plan m most (vs ++ plain c.args.value.now ∷ []) (omega (arith, at, l)))

pub returns-in-Count-clause-plan : goal.returns-in-Count-clause-plan
returns-in-Count-clause-plan c m k most vs h l =
    goes_count most m vs c.args.self.part c.args.self.time c.args.self.space (plain c.args.value.now) c.of-answer.result c.of-answer.ensures.answer
    c.args.self.then (rest_plan m (vs ++ plain c.args.value.now ∷ []) c.count.result) c.in-Count.seen c.in-Count.until c.in-Count.is
    (c.count.ensures.plan m (vs ++ plain c.args.value.now ∷ []))

pub returns-in-Decide-clause-inside : goal.returns-in-Decide-clause-inside
returns-in-Decide-clause-inside c n t h =
    let p = point_by n c.args.self (then.Decide c.in-Decide.form) c.in-Decide.is h in
    c.decide.ensures.inside n (after_inside n (looked_from c.args.self c.args.self.time 0) p.1 (p.0, p.0, omega arith) c.in-Decide.form c.of-answer.result
    (parts_by n c.args.self (then.Decide c.in-Decide.form) c.in-Decide.is h) c.of-answer.ensures.point)

pub returns-in-Find-clause-inside : goal.returns-in-Find-clause-inside
returns-in-Find-clause-inside c n t h =
    let p = point_by n c.args.self (then.Find c.in-Find.wanted) c.in-Find.is h in
    c.find.ensures.inside n (parts_by n c.args.self (then.Find c.in-Find.wanted) c.in-Find.is h) t p

pub returns-in-Count-clause-inside : goal.returns-in-Count-clause-inside
returns-in-Count-clause-inside c n t h =
    let p = point_by n c.args.self (then.Count c.in-Count.seen c.in-Count.until) c.in-Count.is h in
    c.count.ensures.inside n (parts_by n c.args.self (then.Count c.in-Count.seen c.in-Count.until) c.in-Count.is h) p.1

pub returns-in-Argument-clause-inside : goal.returns-in-Argument-clause-inside
returns-in-Argument-clause-inside c n t h =
    let p = point_by n c.args.self (then.Argument c.in-Argument.op) c.in-Argument.is h in
    c.argument.ensures.inside n (parts_by n c.args.self (then.Argument c.in-Argument.op) c.in-Argument.is h) p.0 p.1

pub returns-in-Judge-clause-inside : goal.returns-in-Judge-clause-inside
returns-in-Judge-clause-inside c n t h = c.settled.ensures.inside n
