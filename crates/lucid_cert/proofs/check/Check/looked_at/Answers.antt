use Rattle.lucid_cert.proofs.CheckCommon.{context_of, judgments_of, contexts_in}
use Rattle.lucid_cert.proofs.Using.{earlier_used, told_used}
use Rattle.lucid_cert.proofs.check.Check.looked_at.Goals as goal

pub returns-clause-earlier : goal.returns-clause-earlier
returns-clause-earlier c =
    earlier_used (contexts_in c.args.self.now) (judgments_of c.args.self.now) c.args.before c.in_ok-node.field-0.now
    (context_of c.args.self.now.tags c.args.context) c.args.next.look.time c.args.next.look.space c.args.next.number
    c.used.result c.used.ensures

pub returns-clause-told : goal.returns-clause-told
returns-clause-told c =
    told_used (contexts_in c.args.self.now) (judgments_of c.args.self.now) c.args.before c.in_ok-node.field-0.now
    (context_of c.args.self.now.tags c.args.context) c.args.next.look.time c.args.next.look.space c.args.next.number
    c.used.result c.used.ensures
