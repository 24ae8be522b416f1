use Rattle.lucid_demand.proofs.Common.{refl, sym, subst, ◌∙◌, demand_of, LoopEnds}
use Rattle.lucid_demand.proofs.TakenParts.{err_is}
use Rattle.lucid_demand.proofs.Looping.{ends_at_once, ends_with, ends_refused, goes_on, may_turn, less_is_left, uncounted}
use Rattle.lucid_demand.proofs.turn.Evaluation.demand.Goals as goal

pub returns-in_err-begin : goal.returns-in_err-begin
returns-in_err-begin g c =
    let e = c.args.self.now.engine in
    let w = g.P.Places.world c.args.places.now in
    subst (λ r. LoopEnds e c.begin.new.self.engine w w c.args.time c.args.space c.args.limit r)
    (sym (err_is c.from_residual.result c.in_err-begin.field-0.0 c.from_residual.ensures.1))
    (ends_at_once e w c.args.time c.args.space c.args.limit c.begin.new.self c.in_err-begin.field-0.0
    (c.in_err-begin.ensures w c.requires.sound c.requires.may.inputs))

pub loop-answer-init : goal.loop-answer-init
loop-answer-init g c = (c.in_ok-begin.ensures (g.P.Places.world c.args.places.now) c.requires.sound c.requires.may.inputs, refl, λ good. refl)

pub returns-in-Some : goal.returns-in-Some
returns-in-Some g c =
    let e = c.args.self.now.engine in
    let u = g.P.Places.world c.args.places.now in
    let v = g.P.Places.world c.loop-answer.places in
    ends_with e u c.args.time c.args.space c.args.limit c.loop-answer.self v c.loop-answer.answer c.in-Some.value c.in-Some.is c.loop-answer.invariant.1
    c.loop-answer.invariant.2 c.loop-answer.invariant.0

pub turn-requires-clause-may : goal.turn-requires-clause-may
turn-requires-clause-may g c =
    let e = c.args.self.now.engine in
    let u = g.P.Places.world c.args.places.now in (
      demand_of e u c.args.time c.args.space c.args.limit,
      may_turn e u c.args.time c.args.space c.args.limit c.loop-answer.self
          (g.P.Places.world c.loop-answer.places) c.loop-answer.answer c.in_default.is c.loop-answer.invariant.0,
    )

pub returns-in_err-turn : goal.returns-in_err-turn
returns-in_err-turn g c =
    let e = c.args.self.now.engine in
    let u = g.P.Places.world c.args.places.now in
    let v = g.P.Places.world c.loop-answer.places in
    let w = g.P.Places.world c.turn.new.places in
    let d = demand_of e u c.args.time c.args.space c.args.limit in
    let may = may_turn e u c.args.time c.args.space c.args.limit c.loop-answer.self v c.loop-answer.answer c.in_default.is c.loop-answer.invariant.0 in
    subst (λ r. LoopEnds e c.turn.new.self.engine u w c.args.time c.args.space c.args.limit r)
    (sym (err_is c.from_residual-in_err-turn.result c.in_err-turn.field-0.0 c.from_residual-in_err-turn.ensures.1))
    (ends_refused e u c.args.time c.args.space c.args.limit c.loop-answer.self c.turn.new.self v w c.in_err-turn.field-0.0 may c.loop-answer.invariant.1
    c.turn.ensures.faults c.in_err-turn.ensures.counts
    (λ good. c.in_err-turn.ensures.late (c.loop-answer.invariant.1 ∙ good) ∙ c.loop-answer.invariant.2 good)
    (c.in_err-turn.ensures.steps d may))

pub loop-answer-smaller : goal.loop-answer-smaller
loop-answer-smaller g c =
    let e = c.args.self.now.engine in
    let u = g.P.Places.world c.args.places.now in
    let v = g.P.Places.world c.loop-answer.places in
    let w = g.P.Places.world c.turn.new.places in
    let d = demand_of e u c.args.time c.args.space c.args.limit in
    let may = may_turn e u c.args.time c.args.space c.args.limit c.loop-answer.self v c.loop-answer.answer c.in_default.is c.loop-answer.invariant.0 in
    less_is_left e u c.args.time c.args.space c.args.limit c.loop-answer.self c.turn.new.self v w c.loop-answer.answer c.turn.new.answer c.in_default.is
    (c.in_ok-turn.ensures.steps d may)

pub loop-answer-preserved : goal.loop-answer-preserved
loop-answer-preserved g c =
    let e = c.args.self.now.engine in
    let u = g.P.Places.world c.args.places.now in
    let v = g.P.Places.world c.loop-answer.places in
    let w = g.P.Places.world c.turn.new.places in
    let d = demand_of e u c.args.time c.args.space c.args.limit in
    let may = may_turn e u c.args.time c.args.space c.args.limit c.loop-answer.self v c.loop-answer.answer c.in_default.is c.loop-answer.invariant.0 in (
      goes_on e u c.args.time c.args.space c.args.limit c.loop-answer.self c.turn.new.self v w c.turn.new.answer may (c.in_ok-turn.ensures.steps d may),
      uncounted u v w c.loop-answer.invariant.1 _ c.in_ok-turn.ensures.counts,
      λ good. c.in_ok-turn.ensures.late (c.loop-answer.invariant.1 ∙ good) ∙ c.loop-answer.invariant.2 good,
    )
