use Rattle.lucid_demand.proofs.Common.{refl, sym, ap, ◌∙◌, subst, plain, constant_at, Evaluating, MayGive, at_rows}
use Rattle.lucid_demand.proofs.SettledRows.{gives_may_settle, nothing_taken}
use Rattle.lucid_demand.proofs.Stepping.{constant_gives}
use Rattle.lucid_demand.proofs.turn.Evaluation.settle_constant.Goals as goal

pub returns : goal.returns
returns g c = λ i act.
    c.settle.ensures (at_rows i c.args.self.now.rows)
    (gives_may_settle i c.args.self.now c.args.self.now c.args.slot c.in_ok-value.value
    (subst (λ v. MayGive i.demand c.args.self.now i.world c.args.slot v)
    (ap (λ (e : Evaluating). constant_at e.engine.table c.args.constant) (sym c.self.view_is) ∙ c.constant.ensures ∙ sym (ap plain c.in_ok-value.ensures))
    (constant_gives i.demand c.args.self.now i.world c.args.slot c.args.constant act)) refl (nothing_taken c.args.self.now.rows c.args.slot c.requires.ready))
