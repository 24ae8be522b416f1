use Rattle.lucid_cert_rules.proofs.FollowingCommon.{[], sym, subst, apply, arity, plan, table_of, AreFedAlike}
use Rattle.lucid_equations.specs.declared.rows.Node.TheVariants.{Apply}
use Rattle.lucid_cert_rules.specs.RestPlans.{rest_plan}
use Rattle.lucid_cert_rules.specs.declared.rest.Rest.{Rest}
use Rattle.lucid_cert_rules.proofs.Begins.{head_at, begins_alike, apply_alike}
use Rattle.lucid_cert_rules.proofs.rest.begin.Goals as goal

pub returns-in_default-clause-stands : goal.returns-in_default-clause-stands
returns-in_default-clause-stands c = c.at_once.ensures.stands 0

pub returns-in-Apply-clause-plan : goal.returns-in-Apply-clause-plan
returns-in-Apply-clause-plan c f h m most l =
    begins_alike m most c.args.time c.args.space f (apply c.in-Apply.op (arity c.in-Apply.op)) (rest_plan m [] c.here.result)
    (head_at (table_of c.args.program.now) f c.args.node (Apply c.in-Apply.op c.in-Apply.args) c.in-Apply.is h)
    (subst (λ (r : Rest). AreFedAlike most (plan m (apply c.in-Apply.op (arity c.in-Apply.op)) c.args.time c.args.space) (rest_plan m [] r))
    (sym c.here.ensures)
    (apply_alike m most c.in-Apply.op c.args.time c.args.space))
