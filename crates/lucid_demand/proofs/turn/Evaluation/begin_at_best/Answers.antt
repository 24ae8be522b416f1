use Rattle.lucid_demand.proofs.Common.{sym}
use Rattle.lucid_demand.proofs.Beginning.{stands_still}
use Rattle.lucid_demand.proofs.SearchesBegin.{no_value, begun_there}
use Rattle.lucid_demand.proofs.turn.Evaluation.begin_at_best.Goals as goal

pub returns-in_default-clause-rows : goal.returns-in_default-clause-rows
returns-in_default-clause-rows g c = stands_still c.args.self.now.rows c.args.slot c.requires.ready.ready

pub returns-then-is_some-clause-rows : goal.returns-then-is_some-clause-rows
returns-then-is_some-clause-rows g c = stands_still c.args.self.now.rows c.args.slot c.requires.ready.ready

pub returns-in_default-best-clause-rows : goal.returns-in_default-best-clause-rows
returns-in_default-best-clause-rows g c = stands_still c.args.self.now.rows c.args.slot c.requires.ready.ready

pub returns-in-Some-best-clause-step : goal.returns-in-Some-best-clause-step
returns-in-Some-best-clause-step g c = λ i step.
    (begun_there c.args.self.now _ c.args.slot c.task-task.result c.node.result c.in-Some.search c.self.view_is c.task-task.ensures
    c.node.ensures.meaning (sym c.in-Some.ensures) i step c.in-Some-best.cursor c.set_cursor.new.self c.in-Some-best.ensures.best c.requires.first
    (no_value _ c.got-else-is_some.result _ c.got-else-is_some.ensures c.if-is_some-2.ensures) (no_value _ c.got.result _ c.got.ensures c.if-is_some.ensures)
    c.set_cursor.ensures).0

pub returns-in-Some-best-clause-cost : goal.returns-in-Some-best-clause-cost
returns-in-Some-best-clause-cost g c = λ i step.
    (begun_there c.args.self.now _ c.args.slot c.task-task.result c.node.result c.in-Some.search c.self.view_is c.task-task.ensures
    c.node.ensures.meaning (sym c.in-Some.ensures) i step c.in-Some-best.cursor c.set_cursor.new.self c.in-Some-best.ensures.best c.requires.first
    (no_value _ c.got-else-is_some.result _ c.got-else-is_some.ensures c.if-is_some-2.ensures) (no_value _ c.got.result _ c.got.ensures c.if-is_some.ensures)
    c.set_cursor.ensures).1
