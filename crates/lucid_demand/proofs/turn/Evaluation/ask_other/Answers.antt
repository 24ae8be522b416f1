use Rattle.lucid_demand.specs.Naming.{MayHaveRow}
use Rattle.lucid_demand.proofs.Common.{subst}
use Rattle.lucid_demand.proofs.NamedBodies.{row_asked}
use Rattle.lucid_demand.proofs.turn.Evaluation.ask_other.Goals as goal

pub returns-in-Refer-Some-clause-asks : goal.returns-in-Refer-Some-clause-asks
returns-in-Refer-Some-clause-asks g c = λ i x may.
    c.ask_named.ensures.asks i x
    (subst (λ k. MayHaveRow i.demand c.args.self.now i.world c.args.wanted.part x c.args.wanted.task k) c.in-Refer-Some.is-1 may)

pub returns-in_ok-ask-in_default-clause-asks : goal.returns-in_ok-ask-in_default-clause-asks
returns-in_ok-ask-in_default-clause-asks g c = λ i x may.
    row_asked _ c.args.self.now c.self.view_is i.demand i.world c.args.wanted.part x c.args.wanted.task c.args.wanted.key may c.ask.new.self
    c.in_ok-ask-in_default.field-0 c.in_ok-ask-in_default.ensures.newest c.in_ok-ask-in_default.ensures.rows c.args.answer.now c.requires.open
