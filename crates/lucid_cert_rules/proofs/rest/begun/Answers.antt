use Rattle.lucid_cert_rules.proofs.FollowingCommon.{◌≤◌, sym, ap, ◌∙◌, subst, arith}
use Rattle.lucid_tree.specs.Forms.{part_count}
use Rattle.lucid_equations.specs.Steps.{StartInside}
use Rattle.lucid_equations.proofs.Looks.{start_inside}
use Rattle.lucid_cert_rules.specs.RestPlans.{rest_plan, IsLookOf, LooksInside, Stands}
use Rattle.lucid_cert_rules.specs.Told.{at_point}
use Rattle.lucid_cert_rules.specs.declared.rest.Then.TheVariants as then
use Rattle.lucid_cert_rules.proofs.Begins.{begins_looking, begins_stepping}
use Rattle.lucid_cert_rules.proofs.Ending.{IsBegun, begun_so}
use Rattle.lucid_cert_rules.proofs.rest.begun.Goals as goal

pub returns-in-Look-clause-plan : goal.returns-in-Look-clause-plan
returns-in-Look-clause-plan c m vs =
    ap (rest_plan m vs) c.here.ensures
    ∙ sym (begins_looking m vs c.args.time c.args.space c.args.form c.requires c.in-Look.at (sym c.begin-first.ensures ∙ c.in-Look.is))

pub returns-in-Look-clause-stands : goal.returns-in-Look-clause-stands
returns-in-Look-clause-stands c k =
    subst (Stands k) (sym c.here.ensures)
    (subst (IsBegun c.args.form) (sym c.begin-first.ensures ∙ c.in-Look.is) (begun_so c.args.form c.requires (at_point c.args.time c.args.space)))

pub returns-in-Look-clause-inside : goal.returns-in-Look-clause-inside
returns-in-Look-clause-inside c l k =
    let all : part_count c.args.form ≤ part_count c.args.form = omega arith in
    let at = subst (StartInside (part_count c.args.form)) (sym c.begin-first.ensures ∙ c.in-Look.is)
    (start_inside (part_count c.args.form) (at_point c.args.time c.args.space) k (l, l, omega arith) c.args.form all) in
    let look : IsLookOf (part_count c.args.form)
    (record { part = c.in-Look.at.part; time = c.in-Look.at.time; space = c.in-Look.at.space; then = then.Decide c.args.form }) =
    record { part = at.0; parts = all; point = (at.1, at.2) } in
    subst (LooksInside (part_count c.args.form)) (sym c.here.ensures) look

pub taken-requires : goal.taken-requires
taken-requires c =
    subst (IsBegun c.args.form) (sym c.begin-first.ensures ∙ c.in-Step.is) (begun_so c.args.form c.requires (at_point c.args.time c.args.space))

pub returns-in-Step-clause-plan : goal.returns-in-Step-clause-plan
returns-in-Step-clause-plan c m vs =
    c.taken.ensures.plan c.args.form (at_point c.args.time c.args.space) m vs
    ∙ sym (begins_stepping m vs c.args.time c.args.space c.args.form c.requires c.in-Step.step (sym c.begin-first.ensures ∙ c.in-Step.is))

pub returns-in-Step-clause-inside : goal.returns-in-Step-clause-inside
returns-in-Step-clause-inside c l k =
    c.taken.ensures.inside (part_count c.args.form) (subst (StartInside (part_count c.args.form)) (sym c.begin-first.ensures ∙ c.in-Step.is)
    (start_inside (part_count c.args.form) (at_point c.args.time c.args.space) k (l, l, omega arith) c.args.form (omega arith)))
