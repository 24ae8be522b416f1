use Rattle.lucid_demand.proofs.Common.{DemandIn, gave}
use Rattle.lucid_demand.proofs.Beginning.{stepped_from_less}
use Rattle.lucid_demand.proofs.Stepping.{ready_task, may_decide, may_act}
use Rattle.lucid_demand.proofs.turn.Evaluation.step.Goals as goal

pub begin_search-requires : goal.begin_search-requires
begin_search-requires g c = ready_task c.requires.may.0 c.args.self.now (g.P.Places.world c.args.places.now) c.args.slot c.requires.may.1

pub decided-decision-requires : goal.decided-decision-requires
decided-decision-requires g c κs within =
    let d = c.requires.may.0 in
    let w = g.P.Places.world c.args.places.now in
    (within.0, (within.1, may_decide d c.begin_search.new.self w c.args.slot (c.begin_search.ensures.step (record { demand = d; world = w }) c.requires.may.1)))

pub act-requires-clause-may : goal.act-requires-clause-may
act-requires-clause-may g c =
    let d = c.requires.may.0 in
    let w = g.P.Places.world c.args.places.now in (
      d,
      may_act d c.begin_search.new.self w c.args.slot (c.begin_search.ensures.step (record { demand = d; world = w }) c.requires.may.1)
          c.decided-decision.result c.decided-decision.ensures,
    )

pub returns-clause-steps : goal.returns-clause-steps
returns-clause-steps g c = λ d m.
    let v = g.P.Places.world c.args.places.now in
    let w = g.P.Places.world c.act.new.places in
    let i : DemandIn = record { demand = d; world = v } in
    let may = c.begin_search.ensures.step i m in
    stepped_from_less d c.args.self.now c.begin_search.new.self c.act.new.self v w (gave c.act.result c.act.new.answer) (c.begin_search.ensures.cost i m)
    (c.act.ensures.steps d (may_act d c.begin_search.new.self v c.args.slot may c.decided-decision.result c.decided-decision.ensures))
