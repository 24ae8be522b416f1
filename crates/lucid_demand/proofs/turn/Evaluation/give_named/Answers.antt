use Rattle.lucid_demand.proofs.Common.{ap, ◌∙◌, sym, subst, EngineView, Evaluating, AsksIn, IsTurned, gave, NoMemory}
use Rattle.std.specs.Prelude.{IfSome}
use Rattle.lucid_tasks.specs.Rows.{IsIdlePart, Gives}
use Rattle.lucid_demand.proofs.TakenParts.{gave_err}
use Rattle.lucid_demand.proofs.AskedParts.{no_ok, open_still, open_given}
use Rattle.lucid_demand.proofs.NamedBodies.{named_refused, named_given, put_sets}
use Rattle.lucid_demand.proofs.turn.Evaluation.give_named.Goals as goal

pub returns-in_err-put-clause-sets : goal.returns-in_err-put-clause-sets
returns-in_err-put-clause-sets g c = no_ok c.from_residual.result _ _ c.from_residual.ensures.1

pub returns-in_err-put-clause-open : goal.returns-in_err-put-clause-open
returns-in_err-put-clause-open g c = open_still c.args.part c.args.answer.now c.requires.open

pub returns-in_err-put-clause-asks : goal.returns-in_err-put-clause-asks
returns-in_err-put-clause-asks g c = λ i x y may.
    subst (λ (e : Evaluating). AsksIn i.demand c.args.self.now e i.world c.args.part (gave c.from_residual.result c.args.answer.now)) (sym c.in_err-put.ensures.err)
    (named_refused i.demand c.args.self.now i.world c.args.part x y c.args.key c.args.value may c.drop_values.new.self.engine c.drop_values.ensures.turned
    c.drop_values.new.self.rows (gave c.from_residual.result c.args.answer.now)
    (gave_err c.from_residual.result c.args.answer.now NoMemory c.from_residual.ensures.1))

pub give-requires-clause-part : goal.give-requires-clause-part
give-requires-clause-part g c =
    subst (λ rs. IfSome c.args.part (IsIdlePart rs)) (sym (c.put.ensures.rows ∙ c.drop_values.ensures.rows)) c.requires.idle

pub returns-clause-sets : goal.returns-clause-sets
returns-clause-sets g c =
    put_sets c.args.self.now c.drop_values.new.self c.put.new.self c.drop_values-2.new.self c.args.part c.args.value c.give.new.self.rows
    c.drop_values.ensures.turned c.drop_values.ensures.rows c.in_ok-put.ensures.kept.0 c.put.ensures.rows c.give.ensures.rows
    (subst (λ (e : Evaluating). IsTurned e.engine c.drop_values-2.new.self.engine) c.give.ensures.only c.drop_values-2.ensures.turned)
    c.drop_values-2.ensures.rows

pub returns-clause-open : goal.returns-clause-open
returns-clause-open g c = open_given c.args.part c.args.value c.give.new.answer c.give.ensures.answer

pub returns-clause-asks : goal.returns-clause-asks
returns-clause-asks g c = λ i x y may.
    named_given i.demand c.args.self.now i.world c.args.part x y c.args.key c.args.value may c.drop_values.new.self.engine c.drop_values.ensures.turned
    c.put.new.self.engine.stored c.in_ok-put.ensures.kept.1 c.give.new.self.rows
    (subst (λ rs. Gives rs c.give.new.self.rows c.args.part c.args.value) (c.put.ensures.rows ∙ c.drop_values.ensures.rows) c.give.ensures.rows)
    c.drop_values-2.new.self
    (subst (λ (z : EngineView). IsTurned z c.drop_values-2.new.self.engine) (ap (λ (e : Evaluating). e.engine) c.give.ensures.only ∙ c.in_ok-put.ensures.kept.0)
    c.drop_values-2.ensures.turned) c.drop_values-2.ensures.rows c.give.new.answer c.give.ensures.answer
