use Rattle.lucid_demand.proofs.Common.{subst, Evaluating, IsTurned}
use Rattle.lucid_demand.specs.Naming.{MayGiveAtOnce}
use Rattle.lucid_demand.proofs.AskedOperators.{at_once_given}
use Rattle.lucid_demand.proofs.turn.Evaluation.give_at_once.Goals as goal

pub returns-in-Some-clause-asks : goal.returns-in-Some-clause-asks
returns-in-Some-clause-asks g c = λ i x y may.
    c.give_named.ensures.asks i x y (subst (λ k. MayGiveAtOnce i.demand c.args.self.now i.world c.args.part x y k c.args.value) c.in-Some.is may)

pub returns-clause-asks : goal.returns-clause-asks
returns-clause-asks g c = λ i x y may.
    at_once_given i.demand c.args.self.now i.world c.args.part x y c.args.value
    (subst (λ k. MayGiveAtOnce i.demand c.args.self.now i.world c.args.part x y k c.args.value) c.in_default.is may) c.give.new.self.rows c.give.ensures.rows
    c.drop_values.new.self
    (subst (λ (e : Evaluating). IsTurned e.engine c.drop_values.new.self.engine) c.give.ensures.only c.drop_values.ensures.turned) c.drop_values.ensures.rows
    c.give.new.answer c.give.ensures.answer
