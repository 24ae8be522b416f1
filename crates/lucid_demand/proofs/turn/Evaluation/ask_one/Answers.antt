use Rattle.lucid_demand.proofs.Common.{arith, gave}
use Rattle.std.proofs.Common.{Some}
use Rattle.lucid_demand.proofs.Beginning.{stepped_from_less, noted_costs}
use Rattle.lucid_demand.proofs.AskedParts.{asked_steps}
use Rattle.lucid_demand.proofs.MayAsk.{can_ask}
use Rattle.lucid_demand.proofs.Stepping.{ready_task}
use Rattle.lucid_demand.proofs.turn.Evaluation.ask_one.Goals as goal

pub note_end-requires : goal.note_end-requires
note_end-requires g c = ready_task c.requires.may.0.demand c.args.self.now c.requires.may.0.world c.args.slot c.requires.may.1.step

pub ask-requires-clause-can : goal.ask-requires-clause-can
ask-requires-clause-can g c =
    let i = c.requires.may.0 in
    can_ask i.demand c.note_end.new.self i.world (Some (record { slot = c.args.slot; index = c.args.index })) c.args.task _
    (c.note_end.ensures.asks i c.args.task c.requires.may.1)

pub returns : goal.returns
returns g c = λ i act.
    let same = noted_costs i.demand c.args.self.now c.note_end.new.self c.note_end.new.self.engine.noted c.note_end.ensures.only c.note_end.ensures.rows in
    stepped_from_less i.demand c.args.self.now c.note_end.new.self c.ask.new.self i.world i.world (gave c.ask.result c.ask.new.answer) (omega (arith, same))
    (asked_steps i.demand c.note_end.new.self c.ask.new.self i.world (record { slot = c.args.slot; index = c.args.index }) (gave c.ask.result c.ask.new.answer)
    (c.ask.ensures.asks i (c.note_end.ensures.asks i c.args.task act)))
