use Rattle.lucid_cert_rules.proofs.FollowingCommon.{◌+◌, ◌∙◌, ap, refl, arith}
use Rattle.std.proofs.Common.{true, false}
use Rattle.lucid_equations.specs.declared.step.Step.TheVariants.{On}
use Rattle.lucid_cert_rules.specs.RestPlans.{rest_plan}
use Rattle.lucid_cert_rules.proofs.GoesOn.{counts_step, counts_end}
use Rattle.lucid_cert_rules.proofs.Ending.{upon_ends, upon_inside}
use Rattle.lucid_cert_rules.proofs.rest.Look.count.Goals as goal

pub returns-then-holds-clause-plan : goal.returns-then-holds-clause-plan
returns-then-holds-clause-plan c m vs =
    counts_step c.args.self c.args.seen c.args.until c.args.answer c.place.result c.after.result (rest_plan m vs c.count_on.result) c.place.ensures c.after.ensures
    (c.args.seen + 1) true (c.in-On.is ∙ ap On c.if-holds.true) (omega arith) (c.count_on.ensures.plan m vs)

pub returns-else-holds-clause-plan : goal.returns-else-holds-clause-plan
returns-else-holds-clause-plan c m vs =
    counts_step c.args.self c.args.seen c.args.until c.args.answer c.place.result c.after.result (rest_plan m vs c.count_on-in-On.result) c.place.ensures
    c.after.ensures c.args.seen false (c.in-On.is ∙ ap On c.if-holds.false) refl (c.count_on-in-On.ensures.plan m vs)

pub taken-requires : goal.taken-requires
taken-requires c = upon_ends c.place.result c.args.answer c.after.result c.after.ensures c.in_default.not-On

pub returns-in_default-clause-plan : goal.returns-in_default-clause-plan
returns-in_default-clause-plan c m vs =
    counts_end c.args.self c.args.seen c.args.until c.args.answer c.place.result c.after.result (rest_plan m vs c.taken.result) c.place.ensures c.after.ensures
    (λ f p. c.taken.ensures.plan f p m vs)

pub returns-in_default-clause-inside : goal.returns-in_default-clause-inside
returns-in_default-clause-inside c n h s = c.taken.ensures.inside n (upon_inside n c.place.result c.args.answer c.after.result c.after.ensures)
