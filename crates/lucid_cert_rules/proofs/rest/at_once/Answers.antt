use Rattle.lucid_cert_rules.proofs.FollowingCommon.{sym, ap, ◌∙◌, subst, Head, plan}
use Rattle.lucid_cert_rules.specs.RestPlans.{IsReadAtOnce}
use Rattle.lucid_cert_rules.proofs.Begins.{head_read}
use Rattle.lucid_cert_rules.proofs.rest.at_once.Goals as goal

pub begun-requires : goal.begun-requires
begun-requires c = subst IsReadAtOnce (sym c.read-found.ensures ∙ c.in-Some.is) c.requires

pub unreachable-requires : goal.unreachable-requires
unreachable-requires c = subst IsReadAtOnce (sym c.read-found.ensures ∙ c.in-None.is) c.requires

pub returns-clause-plan : goal.returns-clause-plan
returns-clause-plan c T f has m vs =
    let head = head_read T c.args.node _ (sym c.read-found.ensures ∙ c.in-Some.is) f has in
    c.begun.ensures.plan m vs ∙ ap (λ (g : Head). plan m g c.args.time c.args.space) (sym head)
