use Rattle.lucid_demand.proofs.Common.{sym, subst, Evaluating, MayStep, Stepped, gave}
use Rattle.lucid_demand.proofs.Turning.{turned_may_step, turn_steps}
use Rattle.lucid_demand.proofs.turn.Evaluation.turn.Goals as goal

pub step-requires-clause-may : goal.step-requires-clause-may
step-requires-clause-may g c =
    let w = g.P.Places.world c.args.places.now in (
      c.requires.may.0,
      subst (λ (e : Evaluating). MayStep c.requires.may.0 e w c.pick_ready-slot.result) (sym c.pick_ready-slot.ensures.same)
          (turned_may_step c.requires.may.0 c.args.self.now c.drop_values.new.self w c.pick_ready-slot.result c.requires.may.1 c.drop_values.ensures.turned
          c.drop_values.ensures.rows c.pick_ready-slot.ensures.ready),
    )

pub returns-clause-steps : goal.returns-clause-steps
returns-clause-steps g c = λ d may.
    let v = g.P.Places.world c.args.places.now in
    let w = g.P.Places.world c.step.new.places in
    turn_steps d c.args.self.now c.drop_values.new.self c.step.new.self v w c.pick_ready-slot.result (gave c.step.result c.step.new.answer) may
    c.drop_values.ensures.turned c.drop_values.ensures.rows c.pick_ready-slot.ensures.ready
    (subst (λ (e : Evaluating). MayStep d e v c.pick_ready-slot.result → Stepped d e c.step.new.self v w (gave c.step.result c.step.new.answer))
    c.pick_ready-slot.ensures.same (c.step.ensures.steps d))
