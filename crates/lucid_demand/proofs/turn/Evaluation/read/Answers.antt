use Rattle.lucid_demand.proofs.Common.{ap, subst, sym, Evaluating, Stepped, gave}
use Rattle.lucid_demand.proofs.TakenParts.{err_is}
use Rattle.lucid_demand.proofs.ReadElements.{settled_read, refused_read}
use Rattle.lucid_demand.proofs.turn.Evaluation.read.Goals as goal

pub returns-in_err-value-clause-steps : goal.returns-in_err-value-clause-steps
returns-in_err-value-clause-steps g c = λ d act.
    subst (λ r. Stepped d c.args.self.now c.element.new.self (g.P.Places.world c.args.places.now) (g.P.Places.world c.element.new.places) r)
    (ap (λ r. gave r c.args.answer.now) (sym (err_is c.from_residual.result c.in_err-value.field-0.0 c.from_residual.ensures.1)))
    (refused_read d c.args.self.now c.element.new.self c.args.slot c.args.stream (g.P.Places.world c.args.places.now) (g.P.Places.world c.element.new.places)
    c.self.inside.tasks
    c.task-time.result c.element.result c.in_err-value.field-0.0 (ap (λ (e : Evaluating). e.rows) c.self.view_is) c.task-time.ensures c.element.ensures.reads
    c.in_err-value.was act)

pub returns-clause-steps : goal.returns-clause-steps
returns-clause-steps g c = λ d act.
    settled_read d c.args.self.now c.element.new.self c.settle.new.self c.args.slot c.args.stream (g.P.Places.world c.args.places.now)
    (g.P.Places.world c.element.new.places) c.self.inside.tasks
    c.task-time.result c.in_ok-value.value c.element.result (gave c.settle.result c.settle.new.answer) (ap (λ (e : Evaluating). e.rows) c.self.view_is)
    c.task-time.ensures c.element.ensures.reads c.in_ok-value.was
    c.element.ensures.rows c.settle.ensures act
