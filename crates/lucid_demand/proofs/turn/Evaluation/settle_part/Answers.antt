use Rattle.lucid_demand.proofs.Common.{gave}
use Rattle.lucid_demand.proofs.SettledRows.{settled_part}
use Rattle.lucid_demand.proofs.turn.Evaluation.settle_part.Goals as goal

pub returns : goal.returns
returns g c = λ i act.
    settled_part i c.args.self.now c.take_part-value.new.self c.settle.new.self c.args.slot c.args.index c.take_part-value.result
    (gave c.settle.result c.settle.new.answer) c.take_part-value.ensures.engine
    c.take_part-value.ensures.rows c.take_part-value.ensures.value c.settle.ensures act
