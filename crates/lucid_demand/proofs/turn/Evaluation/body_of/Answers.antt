use Rattle.lucid_demand.proofs.Common.{◌-◌, None, refl, sym, subst, arith, IsKnown, Task, PlainTask, plain_task, passed-stands, Evaluating, NoMemory}
use Rattle.std.proofs.Common.{◌<◌, length}
use Rattle.std.specs.Prelude.{Err}
use Rattle.lucid_equations.specs.Programs.{table_of}
use Rattle.lucid_demand.proofs.TakenParts.{if_refused}
use Rattle.lucid_demand.proofs.AskedReferences.{seen_so, look_too_deep, body_refused, body_asked}
use Rattle.lucid_demand.proofs.NamedBodies.{found_aim, self_finds, looks_absent}
use Rattle.lucid_demand.proofs.turn.Evaluation.body_of.Goals as goal

pub returns-then-task-eq0-clause-refused : goal.returns-then-task-eq0-clause-refused
returns-then-task-eq0-clause-refused g c = λ i part may none.
    look_too_deep c.args.self.now c.args.self.now part c.args.task (found_aim c.args.aim)
    (self_finds c.args.self.now c.args.task c.args.aim c.requires.named) c.requires.named.reference i may c.args.aim refl
    c.args.self.now None (looks_absent c.args.self.now c.args.aim.key none) refl c.if-task-eq0.true

pub moved_on-requires-clause-task : goal.moved_on-requires-clause-task
moved_on-requires-clause-task g c =
    subst (λ (e : Evaluating). c.task.result.node < length e.engine.table.nodes) (sym c.self.view_is)
    (subst (λ (z : Task). z.node < length c.args.self.now.engine.table.nodes) (sym c.task.ensures) c.requires.named.there.body)

pub moved_on-requires-clause-known : goal.moved_on-requires-clause-known
moved_on-requires-clause-known g c =
    subst (λ (e : Evaluating). IsKnown e.engine.known c.task.result.tag) (sym c.self.view_is)
    (subst (λ (z : Task). IsKnown c.args.self.now.engine.known z.tag) (sym c.task.ensures) c.requires.named.there.known_tag)

pub returns-in_err-moved_on-clause-refused : goal.returns-in_err-moved_on-clause-refused
returns-in_err-moved_on-clause-refused g c =
    if_refused c.from_residual.result NoMemory _ c.from_residual.ensures.1
    (λ i part may none.
    body_refused c.args.self.now c.args.self.now part c.args.task (found_aim c.args.aim)
    (self_finds c.args.self.now c.args.task c.args.aim c.requires.named) c.requires.named.reference i may c.args.aim refl _ None
    (seen_so c.args.self.now _ c.args.self.now c.args.aim.key None c.self.view_is (looks_absent c.args.self.now c.args.aim.key none)) refl
    (c.args.task.depth - 1) (omega (arith, c.if-task-eq0.false)) c.task.result c.task.ensures c.moved_on.new.tags
    (record { keeps = c.moved_on.ensures.keeps; contexts = c.moved_on.ensures.one_for_one; entered = c.moved_on.ensures.entered }) c.self.inside.tasks
    (Err NoMemory) refl)

pub returns-clause-there : goal.returns-clause-there
returns-clause-there g c =
    subst (λ (y : PlainTask). y.node < length (table_of c.self.inside.program).nodes) (sym c.in_ok-moved_on.ensures.passed)
    ((passed-stands (table_of c.self.inside.program) c.self.inside.program.in_range (plain_task c.self.inside.tags c.task.result)
    (subst (λ (e : Evaluating). c.task.result.node < length e.engine.table.nodes) (sym c.self.view_is)
    (subst (λ (z : Task). z.node < length c.args.self.now.engine.table.nodes) (sym c.task.ensures) c.requires.named.there.body))).2)

pub returns-clause-goes_on : goal.returns-clause-goes_on
returns-clause-goes_on g c = λ i part may none.
    body_asked c.args.self.now c.args.self.now part c.args.task (found_aim c.args.aim)
    (self_finds c.args.self.now c.args.task c.args.aim c.requires.named) c.requires.named.reference i may c.args.aim refl _ None
    (seen_so c.args.self.now _ c.args.self.now c.args.aim.key None c.self.view_is (looks_absent c.args.self.now c.args.aim.key none)) refl
    (c.args.task.depth - 1) (omega (arith, c.if-task-eq0.false)) c.task.result c.task.ensures c.moved_on.new.tags
    (record { keeps = c.moved_on.ensures.keeps; contexts = c.moved_on.ensures.one_for_one; entered = c.moved_on.ensures.entered })
    c.in_ok-moved_on.field-0 c.in_ok-moved_on.ensures.passed c.in_ok-moved_on.ensures.passed_known
