use Rattle.lucid_cert_rules.proofs.FollowingCommon.{◌+◌, ◌-◌, ◌<◌, ◌≤◌, ◌∙◌, ap, sym, subst, refl, arith, last}
use Rattle.std.proofs.Common.{true, false}
use Rattle.lucid_equations.specs.declared.step.Place.{Place}
use Rattle.lucid_equations.specs.declared.step.Step.TheVariants.{On}
use Rattle.lucid_cert_rules.specs.RestPlans.{rest_plan}
use Rattle.lucid_cert_rules.proofs.GoesOn.{finds_on, finds_end}
use Rattle.lucid_cert_rules.proofs.Ending.{whenever_ends, wants_more, whenever_inside}
use Rattle.lucid_cert_rules.proofs.rest.Look.find.Goals as goal

pub overflow_sub-wanted : goal.overflow_sub-wanted
overflow_sub-wanted c =
    let more = wants_more c.place.result c.args.answer c.after.result c.in-On.seen c.after.ensures c.in-On.is c.if-seen.true in
    let some : 0 < c.args.wanted = subst (λ (p : Place). p.count < p.time) c.place.ensures more in omega (arith, some)

pub returns-then-seen-clause-plan : goal.returns-then-seen-clause-plan
returns-then-seen-clause-plan c m most vs h =
    finds_on most m c.args.self c.args.wanted c.args.answer c.place.result c.after.result (rest_plan m vs c.search_on.result) c.place.ensures c.after.ensures
    (c.args.wanted - 1) true (c.in-On.is ∙ ap On c.if-seen.true) refl (c.search_on.ensures.plan m most vs h)

pub returns-else-seen-clause-plan : goal.returns-else-seen-clause-plan
returns-else-seen-clause-plan c m most vs h =
    finds_on most m c.args.self c.args.wanted c.args.answer c.place.result c.after.result (rest_plan m vs c.search_on-in-On.result) c.place.ensures
    c.after.ensures c.args.wanted false (c.in-On.is ∙ ap On c.if-seen.false) (omega arith) (c.search_on-in-On.ensures.plan m most vs h)

pub taken-requires : goal.taken-requires
taken-requires c = whenever_ends c.place.result c.args.answer c.after.result c.after.ensures c.in_default.not-On

pub returns-in_default-clause-plan : goal.returns-in_default-clause-plan
returns-in_default-clause-plan c m most vs h =
    finds_end most m c.args.self c.args.wanted c.args.answer c.place.result c.after.result (rest_plan m vs c.taken.result) c.place.ensures c.after.ensures
    (λ f p. c.taken.ensures.plan f p m vs)

pub returns-in_default-clause-stands : goal.returns-in_default-clause-stands
returns-in_default-clause-stands c k e = c.taken.ensures.stands (k + 1)

pub returns-in_default-clause-inside : goal.returns-in_default-clause-inside
returns-in_default-clause-inside c n h t s =
    c.taken.ensures.inside n (whenever_inside n c.place.result c.args.answer (omega (arith, h)) (subst (λ (p : Place). p.reached ≤ last) (sym c.place.ensures) t)
    (subst (λ (p : Place). p.space ≤ last) (sym c.place.ensures) s) c.after.result c.after.ensures)

pub returns-then-seen-clause-inside : goal.returns-then-seen-clause-inside
returns-then-seen-clause-inside c n h t s = c.search_on.ensures.inside n h s

pub returns-else-seen-clause-inside : goal.returns-else-seen-clause-inside
returns-else-seen-clause-inside c n h t s = c.search_on-in-On.ensures.inside n h s
