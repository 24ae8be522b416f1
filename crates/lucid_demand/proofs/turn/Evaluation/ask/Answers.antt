use Rattle.lucid_demand.proofs.Common.{ap, sym, ◌∙◌, subst, KeepsKnown, plain, row, PlainTask, plain_task, passed-stands, Evaluating, gave, AsksIn, SetsPart, NoMemory}
use Rattle.std.proofs.Common.{Ok, ◌<◌, length}
use Rattle.std.specs.Prelude.{IfSome}
use Rattle.lucid_tree.specs.Tree.{const}
use Rattle.lucid_equations.specs.Nodes.{no_nodes}
use Rattle.lucid_equations.specs.Programs.{table_of}
use Rattle.lucid_demand.proofs.TakenParts.{gave_err}
use Rattle.lucid_demand.proofs.AskedParts.{only_known, ask_refused, ask_given, ask_referred, ask_operated, ask_asked, given_sets, asked_sets, last_sets, can_ask_last, idle_seen, open_still, open_given, no_ok, on_ok}
use Rattle.lucid_demand.proofs.turn.Evaluation.ask.Goals as goal

pub returns-in_err-task-clause-asks : goal.returns-in_err-task-clause-asks
returns-in_err-task-clause-asks g c = λ i may.
    ask_refused _ c.args.self.now c.self.view_is c.args.part c.args.task c.moved_on.new.tags
    (record { keeps = c.moved_on.ensures.keeps; contexts = c.moved_on.ensures.one_for_one; entered = c.moved_on.ensures.entered }) i may c.self.inside.tasks
    (gave c.from_residual.result c.args.answer.now) (gave_err c.from_residual.result c.args.answer.now NoMemory c.from_residual.ensures.1)

pub node-requires : goal.node-requires
node-requires g c =
    subst (λ (y : PlainTask). y.node < length (table_of c.self.inside.program).nodes) (sym c.in_ok-task.ensures.passed)
    ((passed-stands (table_of c.self.inside.program) c.self.inside.program.in_range (plain_task c.self.inside.tags c.args.task)
    (subst (λ (e : Evaluating). c.args.task.node < length e.engine.table.nodes) (sym c.self.view_is) c.requires.can.there)).2)

pub returns-in_err-value-in-Const-clause-asks : goal.returns-in_err-value-in-Const-clause-asks
returns-in_err-value-in-Const-clause-asks g c = λ i may.
    ask_refused _ c.args.self.now c.self.view_is c.args.part c.args.task c.moved_on.new.tags
    (record { keeps = c.moved_on.ensures.keeps; contexts = c.moved_on.ensures.one_for_one; entered = c.moved_on.ensures.entered }) i may c.self.inside.tasks
    (gave c.from_residual-in_err-value-in-Const.result c.args.answer.now)
    (gave_err c.from_residual-in_err-value-in-Const.result c.args.answer.now NoMemory c.from_residual-in_err-value-in-Const.ensures.1)

pub ask_reference-requires-clause-can : goal.ask_reference-requires-clause-can
ask_reference-requires-clause-can g c =
    can_ask_last _ c.args.self.now c.self.view_is c.args.part c.args.task c.requires.can c.moved_on.new.tags c.in_ok-task.task
    (subst (λ (y : PlainTask). y.node < length (table_of c.self.inside.program).nodes) (sym c.in_ok-task.ensures.passed)
    ((passed-stands (table_of c.self.inside.program) c.self.inside.program.in_range (plain_task c.self.inside.tags c.args.task)
    (subst (λ (e : Evaluating). c.args.task.node < length e.engine.table.nodes) (sym c.self.view_is)
    c.requires.can.there)).2)) c.in_ok-task.ensures.passed_known

pub ask_operator-requires-clause-idle : goal.ask_operator-requires-clause-idle
ask_operator-requires-clause-idle g c = idle_seen _ c.args.self.now c.args.part c.self.view_is c.requires.can.part_idle

pub ask_operator-requires-clause-there : goal.ask_operator-requires-clause-there
ask_operator-requires-clause-there g c =
    subst (λ (y : PlainTask). y.node < length (table_of c.self.inside.program).nodes) (sym c.in_ok-task.ensures.passed)
    ((passed-stands (table_of c.self.inside.program) c.self.inside.program.in_range (plain_task c.self.inside.tags c.args.task)
    (subst (λ (e : Evaluating). c.args.task.node < length e.engine.table.nodes) (sym c.self.view_is) c.requires.can.there)).2)

pub returns-in_err-ask-in_default-clause-sets : goal.returns-in_err-ask-in_default-clause-sets
returns-in_err-ask-in_default-clause-sets g c = no_ok c.from_residual-in_err-ask-in_default.result _ _ c.from_residual-in_err-ask-in_default.ensures.1

pub returns-in_err-ask-in_default-clause-open : goal.returns-in_err-ask-in_default-clause-open
returns-in_err-ask-in_default-clause-open g c = open_still c.args.part c.args.answer.now c.requires.open

pub returns-in_err-ask-in_default-clause-asks : goal.returns-in_err-ask-in_default-clause-asks
returns-in_err-ask-in_default-clause-asks g c = λ i may.
    ask_refused _ c.args.self.now c.self.view_is c.args.part c.args.task c.moved_on.new.tags
    (record { keeps = c.moved_on.ensures.keeps; contexts = c.moved_on.ensures.one_for_one; entered = c.moved_on.ensures.entered }) i may c.ask.new.self
    (gave c.from_residual-in_err-ask-in_default.result c.args.answer.now)
    (gave_err c.from_residual-in_err-ask-in_default.result c.args.answer.now NoMemory c.from_residual-in_err-ask-in_default.ensures.1)

pub returns-in_ok-value-in-Const-clause-sets : goal.returns-in_ok-value-in-Const-clause-sets
returns-in_ok-value-in-Const-clause-sets g c =
    subst (λ (e : Evaluating). IfSome c.args.part (SetsPart c.args.self.now e)) (sym c.give.ensures.only)
    (given_sets c.args.self.now _ c.self.inside.tasks (ap (λ (e : Evaluating). e.rows) c.self.view_is)
    (only_known _ c.args.self.now c.self.view_is c.moved_on.new.tags)
    (subst (λ (e : Evaluating). KeepsKnown e.engine.known c.moved_on.new.tags) c.self.view_is c.moved_on.ensures.keeps) c.args.part c.in_ok-value-in-Const.value
    c.give.ensures.rows)

pub returns-in_ok-value-in-Const-clause-open : goal.returns-in_ok-value-in-Const-clause-open
returns-in_ok-value-in-Const-clause-open g c = open_given c.args.part c.in_ok-value-in-Const.value c.give.new.answer c.give.ensures.answer

pub returns-in_ok-value-in-Const-clause-asks : goal.returns-in_ok-value-in-Const-clause-asks
returns-in_ok-value-in-Const-clause-asks g c = λ i may.
    subst (λ (e : Evaluating). AsksIn i.demand c.args.self.now e i.world c.args.part (Ok c.give.new.answer)) (sym c.give.ensures.only)
    (ask_given _ c.args.self.now c.self.view_is c.args.part c.args.task c.moved_on.new.tags
    (record { keeps = c.moved_on.ensures.keeps; contexts = c.moved_on.ensures.one_for_one; entered = c.moved_on.ensures.entered }) i may c.in_ok-task.task
    c.in_ok-task.ensures.passed c.in_ok-task.ensures.passed_known c.give.new.self.rows c.in_ok-value-in-Const.value
    (c.in-Const.ensures.meaning ∙ ap (λ z. row (const z) no_nodes) (c.constant.ensures ∙ sym (ap plain c.in_ok-value-in-Const.ensures))) c.give.ensures.rows
    c.give.new.answer c.give.ensures.answer)

pub returns-in-Refer-clause-sets : goal.returns-in-Refer-clause-sets
returns-in-Refer-clause-sets g c =
    on_ok c.ask_reference.result _ _ (last_sets _ c.args.self.now c.self.view_is c.moved_on.new.tags c.moved_on.ensures.keeps c.ask_reference.new.self
    c.args.part) c.ask_reference.ensures.sets

pub returns-in-Refer-clause-asks : goal.returns-in-Refer-clause-asks
returns-in-Refer-clause-asks g c = λ i may.
    ask_referred _ c.args.self.now c.self.view_is c.args.part c.args.task c.moved_on.new.tags
    (record { keeps = c.moved_on.ensures.keeps; contexts = c.moved_on.ensures.one_for_one; entered = c.moved_on.ensures.entered }) i may c.in_ok-task.task
    c.in_ok-task.ensures.passed c.in_ok-task.ensures.passed_known c.ask_reference.new.self
    (gave c.ask_reference.result c.ask_reference.new.answer) (c.ask_reference.ensures.asks i)

pub returns-in_ok-ask-in_default-clause-sets : goal.returns-in_ok-ask-in_default-clause-sets
returns-in_ok-ask-in_default-clause-sets g c =
    asked_sets c.args.self.now _ c.self.inside.tasks (ap (λ (e : Evaluating). e.rows) c.self.view_is)
    (only_known _ c.args.self.now c.self.view_is c.moved_on.new.tags)
    (subst (λ (e : Evaluating). KeepsKnown e.engine.known c.moved_on.new.tags) c.self.view_is c.moved_on.ensures.keeps) c.args.part
    c.in_ok-ask-in_default.field-0 c.in_ok-task.task _ c.requires.can.part_idle
    c.in_ok-ask-in_default.ensures.newest c.in_ok-ask-in_default.ensures.rows

pub returns-in_ok-ask-in_default-clause-open : goal.returns-in_ok-ask-in_default-clause-open
returns-in_ok-ask-in_default-clause-open g c = open_still c.args.part c.args.answer.now c.requires.open

pub returns-in_ok-ask-in_default-clause-asks : goal.returns-in_ok-ask-in_default-clause-asks
returns-in_ok-ask-in_default-clause-asks g c = λ i may.
    ask_asked _ c.args.self.now c.self.view_is c.args.part c.args.task c.moved_on.new.tags
    (record { keeps = c.moved_on.ensures.keeps; contexts = c.moved_on.ensures.one_for_one; entered = c.moved_on.ensures.entered }) i may c.in_ok-task.task
    c.in_ok-task.ensures.passed c.in_ok-task.ensures.passed_known c.ask.new.self c.in_ok-ask-in_default.field-0
    c.in_ok-ask-in_default.ensures.newest c.in_ok-ask-in_default.ensures.rows c.args.answer.now c.requires.open

pub returns-in-Apply-clause-sets : goal.returns-in-Apply-clause-sets
returns-in-Apply-clause-sets g c =
    on_ok c.ask_operator.result _ _ (last_sets _ c.args.self.now c.self.view_is c.moved_on.new.tags c.moved_on.ensures.keeps c.ask_operator.new.self
    c.args.part) c.ask_operator.ensures.sets

pub returns-in-Apply-clause-asks : goal.returns-in-Apply-clause-asks
returns-in-Apply-clause-asks g c = λ i may.
    ask_operated _ c.args.self.now c.self.view_is c.args.part c.args.task c.moved_on.new.tags
    (record { keeps = c.moved_on.ensures.keeps; contexts = c.moved_on.ensures.one_for_one; entered = c.moved_on.ensures.entered }) i may c.in_ok-task.task
    c.in_ok-task.ensures.passed c.in_ok-task.ensures.passed_known c.ask_operator.new.self
    (gave c.ask_operator.result c.ask_operator.new.answer) (c.ask_operator.ensures.asks i c.in_ok-task.task)
