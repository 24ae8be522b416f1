use Rattle.lucid_demand.proofs.Common.{refl, ap, Evaluating}
use Rattle.lucid_demand.proofs.SettledRows.{settled_in}
use Rattle.lucid_demand.proofs.turn.Evaluation.settle.Goals as goal

pub returns : goal.returns
returns g c = λ s m.
    settled_in s c.args.self.now c.put_remembered.new.self c.leave.new.self c.put_remembered.new.self.rows c.args.slot c.args.value c.leave.new.answer m
    c.in_ok-put_remembered.ensures.kept c.put_remembered.ensures.rows
    (ap (λ (e : Evaluating). e.engine) c.leave.ensures.only) refl c.leave.ensures.rows c.leave.ensures.answer
