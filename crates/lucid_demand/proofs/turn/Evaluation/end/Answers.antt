use Rattle.lucid_demand.proofs.Common.{gave}
use Rattle.lucid_demand.proofs.SettledRows.{settled_end}
use Rattle.lucid_demand.proofs.turn.Evaluation.end.Goals as goal

pub returns : goal.returns
returns g c = λ i may.
    settled_end i c.args.self.now c.note_here.new.self c.settle.new.self c.args.slot c.args.value (gave c.settle.result c.settle.new.answer)
    c.note_here.ensures.owns c.note_here.ensures.only c.note_here.ensures.rows
    c.settle.ensures may
