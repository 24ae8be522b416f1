use Rattle.lucid_demand.proofs.Common.{sym, ap, subst, EngineView, IsSoundEngine, AreAskable, ReadsWithin, Evaluating, Demanded}
use Rattle.lucid_demand_steps.proofs.Reading.{inputs_within}
use Rattle.lucid_demand.proofs.Demanding.{demanded}
use Rattle.lucid_demand.proofs.engine.Engine.demand_at.Goals as goal

pub invariant_of-self : goal.invariant_of-self
invariant_of-self g c =
    let ask = subst (λ (o : EngineView). AreAskable o.streams (g.P.Places.world c.args.places.now)) (sym c.self.view_is) c.requires.inputs in
    let within = subst (λ (x : Evaluating). ReadsWithin x.engine) (ap (λ x. x.evaluation) c.self-inside.view_is)
    (inputs_within c.keeps_within.ensures c.self-inside.inside.0.0.inputs) in (
      subst (λ (x : Evaluating). IsSoundEngine x.engine) (sym (ap (λ x. x.evaluation) c.self-inside.view_is))
          (demanded _ _ _ _ _ _ _ _ c.self.invariant.0 ask within c.demand-answer.ensures).sound,
      c.clear.ensures,
    )

pub returns : goal.returns
returns g c =
    let ask = subst (λ (o : EngineView). AreAskable o.streams (g.P.Places.world c.args.places.now)) (sym c.self.view_is) c.requires.inputs in
    let within = subst (λ (x : Evaluating). ReadsWithin x.engine) (ap (λ x. x.evaluation) c.self-inside.view_is)
    (inputs_within c.keeps_within.ensures c.self-inside.inside.0.0.inputs) in
    let world = g.P.Places.world c.args.places.now in
    let after = g.P.Places.world c.demand-answer.new.places in
    subst (λ (x : Evaluating). Demanded c.args.self.now x.engine world after c.args.time c.args.space c.args.limit c.demand-answer.result)
    (sym (ap (λ x. x.evaluation) c.self-inside.view_is))
    (subst (λ (o : EngineView). Demanded o c.demand-answer.new.self.engine world after c.args.time c.args.space c.args.limit c.demand-answer.result)
    c.self.view_is
    (demanded _ _ _ _ _ _ _ _ c.self.invariant.0 ask within c.demand-answer.ensures))
