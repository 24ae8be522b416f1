use Rattle.lucid_demand.proofs.CalledAims.{call_finds}
use Rattle.lucid_demand.proofs.turn.Evaluation.aim.Goals as goal

pub returns-in-Call : goal.returns-in-Call
returns-in-Call g c =
    call_finds _ c.args.self.now c.self.view_is c.args.task c.in-Call.name c.in-Call.place c.in-Call.level c.call_aim.new.tags c.call_aim.result
    c.in-Call.ensures.meaning c.call_aim.ensures.aim
    c.call_aim.ensures.there c.call_aim.ensures.entered c.call_aim.ensures.err c.call_aim.ensures.keeps c.call_aim.ensures.one_for_one
