use Rattle.lucid_demand.proofs.Common.{refl, at_rows}
use Rattle.lucid_value.specs.declared.Value.TheVariants.{Truth}
use Rattle.lucid_demand.proofs.SettledRows.{gives_may_settle, nothing_taken}
use Rattle.lucid_demand.proofs.turn.Evaluation.settle_truth.Goals as goal

pub returns : goal.returns
returns g c = λ i may.
    c.settle.ensures (at_rows i c.args.self.now.rows)
    (gives_may_settle i c.args.self.now c.args.self.now c.args.slot (Truth c.args.holds) may refl
    (nothing_taken c.args.self.now.rows c.args.slot c.requires.ready))
