use Rattle.lucid_demand.proofs.Common.{refl, gave}
use Rattle.lucid_demand.proofs.SettledRows.{settled_applied, nothing_taken}
use Rattle.lucid_demand.proofs.turn.Evaluation.settle_applied.Goals as goal

pub returns : goal.returns
returns g c = λ i act.
    settled_applied i c.args.self.now c.args.self.now c.settle.new.self c.args.slot c.args.op c.args.args c.in_ok-value.value
    (gave c.settle.result c.settle.new.answer) refl
    (nothing_taken c.args.self.now.rows c.args.slot c.requires.ready) c.in_ok-value.ensures c.settle.ensures act
