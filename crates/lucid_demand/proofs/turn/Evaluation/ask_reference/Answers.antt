use Rattle.lucid_demand.proofs.Common.{◌-◌, refl, sym, ap, ◌∙◌, subst, arith, value_at, PlainTask, plain_task, passed-stands, Evaluating, gave, IsTurned, NoMemory}
use Rattle.std.proofs.Common.{◌<◌, length}
use Rattle.std.specs.Prelude.{IfSome, Ok}
use Rattle.lucid_tasks.specs.Rows.{IsIdlePart}
use Rattle.lucid_equations.specs.Programs.{table_of}
use Rattle.lucid_demand.proofs.TakenParts.{gave_err}
use Rattle.lucid_demand.proofs.AskedParts.{on_ok, open_given}
use Rattle.lucid_demand.proofs.AskedReferences.{seen_so, aim_body_there, aim_refused, nowhere_refused, look_refused, look_given, look_too_deep, body_refused, body_asked, held_sets, body_sets}
use Rattle.lucid_demand.proofs.turn.Evaluation.ask_reference.Goals as goal

pub returns-in_err-aim-clause-asks : goal.returns-in_err-aim-clause-asks
returns-in_err-aim-clause-asks g c = λ i may.
    aim_refused c.args.self.now c.aim.new.self c.args.part c.args.task c.aim.result c.aim.ensures c.requires.reference i may
    (gave c.from_residual.result c.args.answer.now) (gave_err c.from_residual.result c.args.answer.now NoMemory c.from_residual.ensures.1)

pub returns-in_default-clause-asks : goal.returns-in_default-clause-asks
returns-in_default-clause-asks g c = λ i may.
    nowhere_refused c.args.self.now c.aim.new.self c.args.part c.args.task c.aim.result c.aim.ensures c.requires.reference i may
    (c.in_ok-aim.was ∙ ap Ok c.in_default.is)

pub returns-in_err-value-clause-asks : goal.returns-in_err-value-clause-asks
returns-in_err-value-clause-asks g c = λ i may.
    look_refused c.args.self.now c.aim.new.self c.args.part c.args.task c.aim.result c.aim.ensures c.requires.reference i may
    c.in-Some.aim (c.in_ok-aim.was ∙ ap Ok c.in-Some.is) c.copy_held.new.self (value_at c.aim.new.self.engine.stored c.in-Some.aim.key)
    (record { value = refl; touched = c.copy_held.ensures.touched; only = c.copy_held.ensures.only })
    (gave c.from_residual-in_err-value.result c.args.answer.now)
    (gave_err c.from_residual-in_err-value.result c.args.answer.now NoMemory c.from_residual-in_err-value.ensures.1)

pub returns-in-Some-2-clause-sets : goal.returns-in-Some-2-clause-sets
returns-in-Some-2-clause-sets g c =
    held_sets c.args.self.now c.aim.new.self c.copy_held.new.self c.args.task c.aim.result c.aim.ensures c.in-Some.aim.key c.in_ok-value.field-0
    (record { value = c.in_ok-value.ensures.value; touched = c.copy_held.ensures.touched; only = c.copy_held.ensures.only })
    c.args.part c.in-Some-2.value c.give.new.self.rows c.give.ensures.rows c.drop_values.new.self
    (subst (λ (e : Evaluating). IsTurned e.engine c.drop_values.new.self.engine) c.give.ensures.only c.drop_values.ensures.turned) c.drop_values.ensures.rows

pub returns-in-Some-2-clause-open : goal.returns-in-Some-2-clause-open
returns-in-Some-2-clause-open g c = open_given c.args.part c.in-Some-2.value c.give.new.answer c.give.ensures.answer

pub returns-in-Some-2-clause-asks : goal.returns-in-Some-2-clause-asks
returns-in-Some-2-clause-asks g c = λ i may.
    look_given c.args.self.now c.aim.new.self c.args.part c.args.task c.aim.result c.aim.ensures c.requires.reference i may
    c.in-Some.aim (c.in_ok-aim.was ∙ ap Ok c.in-Some.is) c.copy_held.new.self c.in_ok-value.field-0
    (record { value = c.in_ok-value.ensures.value; touched = c.copy_held.ensures.touched; only = c.copy_held.ensures.only })
    c.in-Some-2.value c.in-Some-2.is c.give.new.self.rows c.give.ensures.rows c.drop_values.new.self
    (subst (λ (e : Evaluating). IsTurned e.engine c.drop_values.new.self.engine) c.give.ensures.only c.drop_values.ensures.turned) c.drop_values.ensures.rows
    c.give.new.answer c.give.ensures.answer

pub returns-then-task-eq0-clause-asks : goal.returns-then-task-eq0-clause-asks
returns-then-task-eq0-clause-asks g c = λ i may.
    look_too_deep c.args.self.now c.aim.new.self c.args.part c.args.task c.aim.result c.aim.ensures c.requires.reference i may
    c.in-Some.aim (c.in_ok-aim.was ∙ ap Ok c.in-Some.is) c.copy_held.new.self c.in_ok-value.field-0
    (record { value = c.in_ok-value.ensures.value; touched = c.copy_held.ensures.touched; only = c.copy_held.ensures.only }) c.in_default-2.is
    c.if-task-eq0.true

pub returns-in_err-body-clause-asks : goal.returns-in_err-body-clause-asks
returns-in_err-body-clause-asks g c = λ i may.
    body_refused c.args.self.now c.aim.new.self c.args.part c.args.task c.aim.result c.aim.ensures c.requires.reference i may
    c.in-Some.aim (c.in_ok-aim.was ∙ ap Ok c.in-Some.is) _ c.in_ok-value.field-0
    (seen_so c.aim.new.self _ c.copy_held.new.self c.in-Some.aim.key c.in_ok-value.field-0 c.self.view_is
    (record { value = c.in_ok-value.ensures.value; touched = c.copy_held.ensures.touched; only = c.copy_held.ensures.only })) c.in_default-2.is
    (c.args.task.depth - 1) (omega (arith, c.if-task-eq0.false)) c.task.result c.task.ensures c.moved_on.new.tags
    (record { keeps = c.moved_on.ensures.keeps; contexts = c.moved_on.ensures.one_for_one; entered = c.moved_on.ensures.entered }) c.self.inside.tasks
    (gave c.from_residual-in_err-body.result c.args.answer.now)
    (gave_err c.from_residual-in_err-body.result c.args.answer.now NoMemory c.from_residual-in_err-body.ensures.1)

pub ask_body-requires-clause-idle : goal.ask_body-requires-clause-idle
ask_body-requires-clause-idle g c =
    subst (λ rs. IfSome c.args.part (IsIdlePart rs)) (sym (ap (λ (e : Evaluating). e.rows) c.self.view_is ∙ ap (λ (e : Evaluating). e.rows) c.copy_held.ensures.only
    ∙ ap (λ (e : Evaluating). e.rows) c.aim.ensures.only)) c.requires.can.part_idle

pub ask_body-requires-clause-there : goal.ask_body-requires-clause-there
ask_body-requires-clause-there g c =
    subst (λ (y : PlainTask). y.node < length (table_of c.self.inside.program).nodes) (sym c.in_ok-body.ensures.passed)
    ((passed-stands (table_of c.self.inside.program) c.self.inside.program.in_range (plain_task c.self.inside.tags c.task.result)
    (aim_body_there c.args.self.now c.aim.new.self _ c.copy_held.new.self c.args.task c.aim.result c.aim.ensures c.in-Some.aim
    (c.in_ok-aim.was ∙ ap Ok c.in-Some.is) c.copy_held.ensures.only c.self.view_is (c.args.task.depth - 1) c.task.result c.task.ensures)).2)

pub returns-clause-sets : goal.returns-clause-sets
returns-clause-sets g c =
    on_ok c.ask_body.result _ _ (body_sets c.args.self.now c.aim.new.self _ c.args.task c.aim.result c.aim.ensures c.in-Some.aim.key c.in_ok-value.field-0
    (seen_so c.aim.new.self _ c.copy_held.new.self c.in-Some.aim.key c.in_ok-value.field-0 c.self.view_is
    (record { value = c.in_ok-value.ensures.value; touched = c.copy_held.ensures.touched; only = c.copy_held.ensures.only }))
    c.args.part c.moved_on.new.tags c.moved_on.ensures.keeps c.ask_body.new.self) c.ask_body.ensures.sets

pub returns-clause-asks : goal.returns-clause-asks
returns-clause-asks g c = λ i may.
    body_asked c.args.self.now c.aim.new.self c.args.part c.args.task c.aim.result c.aim.ensures c.requires.reference i may
    c.in-Some.aim (c.in_ok-aim.was ∙ ap Ok c.in-Some.is) _ c.in_ok-value.field-0
    (seen_so c.aim.new.self _ c.copy_held.new.self c.in-Some.aim.key c.in_ok-value.field-0 c.self.view_is
    (record { value = c.in_ok-value.ensures.value; touched = c.copy_held.ensures.touched; only = c.copy_held.ensures.only })) c.in_default-2.is
    (c.args.task.depth - 1) (omega (arith, c.if-task-eq0.false)) c.task.result c.task.ensures c.moved_on.new.tags
    (record { keeps = c.moved_on.ensures.keeps; contexts = c.moved_on.ensures.one_for_one; entered = c.moved_on.ensures.entered })
    c.in_ok-body.body c.in_ok-body.ensures.passed c.in_ok-body.ensures.passed_known c.ask_body.new.self (gave c.ask_body.result c.ask_body.new.answer)
    (c.ask_body.ensures.asks i c.args.task)
