use Rattle.lucid_demand_steps.proofs.DecidingCommon.{sym, arith}
use Rattle.std.proofs.Common.{length}
use Rattle.lucid_equations.specs.Programs.{table_of}
use Rattle.lucid_demand_steps.specs.Taken.{parts_at}
use Rattle.lucid_demand_steps.proofs.DecidingTaking.{begins, goes_by, asks_first}
use Rattle.lucid_demand_steps.proofs.Within.{few_parts, first_look, first_step, next_step}
use Rattle.lucid_demand_steps.proofs.decision.Ready.stream.Goals as goal

pub got-requires-clause-index : goal.got-requires-clause-index
got-requires-clause-index c =
    let few = few_parts (length (parts_at (table_of c.args.program.now) c.args.self.task.node)) c.args.form c.requires.count in
    let low = first_look (length (parts_at (table_of c.args.program.now) c.args.self.task.node)) c.args.form c.place-place.result c.requires.count c.place-place.ensures.space c.in-Look.at (sym c.in-Look.ensures) in
    omega (arith, few, low.0)

pub take-requires-clause-few : goal.take-requires-clause-few
take-requires-clause-few c = few_parts (length (parts_at (table_of c.args.program.now) c.args.self.task.node)) c.args.form c.requires.count

pub take-requires-clause-looks : goal.take-requires-clause-looks
take-requires-clause-looks c =
    next_step (length (parts_at (table_of c.args.program.now) c.args.self.task.node)) c.args.form c.place-place.result c.requires.count c.place-place.ensures.space c.of.result c.of.ensures.point
    c.after.result c.after.ensures

pub returns-in-Some : goal.returns-in-Some
returns-in-Some c = λ known its h.
    c.take.ensures known its c.args.form h
    (goes_by (table_of c.args.program.now) known c.args.tasks.now c.args.self.slot c.args.self.task its c.args.form h c.place-place.result
    (c.place-place.ensures.row known its h.ready.there h.ready.is_task) c.in-Look.at (sym c.in-Look.ensures)
    c.in-Some.value.now (sym c.in-Some.ensures) c.of.result c.of.ensures.answer c.after.result c.after.ensures)

pub ask-requires-clause-part : goal.ask-requires-clause-part
ask-requires-clause-part c =
    (first_look (length (parts_at (table_of c.args.program.now) c.args.self.task.node)) c.args.form c.place-place.result c.requires.count c.place-place.ensures.space c.in-Look.at (sym c.in-Look.ensures)).0

pub ask-requires-clause-space : goal.ask-requires-clause-space
ask-requires-clause-space c =
    (first_look (length (parts_at (table_of c.args.program.now) c.args.self.task.node)) c.args.form c.place-place.result c.requires.count c.place-place.ensures.space c.in-Look.at (sym c.in-Look.ensures)).1

pub returns-in-None : goal.returns-in-None
returns-in-None c = λ known its h.
    asks_first (table_of c.args.program.now) known c.args.tasks.now c.args.self.slot c.args.self.task its c.args.form h c.place-place.result
    (c.place-place.ensures.row known its h.ready.there h.ready.is_task) c.in-Look.at (sym c.in-Look.ensures)
    (first_look (length (parts_at (table_of c.args.program.now) c.args.self.task.node)) c.args.form c.place-place.result c.requires.count c.place-place.ensures.space c.in-Look.at (sym c.in-Look.ensures)).0
    (sym c.in-None.ensures) c.ask.result c.ask.ensures

pub take-requires-in-Step-clause-few : goal.take-requires-in-Step-clause-few
take-requires-in-Step-clause-few c = few_parts (length (parts_at (table_of c.args.program.now) c.args.self.task.node)) c.args.form c.requires.count

pub take-requires-in-Step-clause-looks : goal.take-requires-in-Step-clause-looks
take-requires-in-Step-clause-looks c =
    first_step (length (parts_at (table_of c.args.program.now) c.args.self.task.node)) c.args.form c.place-place.result c.requires.count c.place-place.ensures.space c.in-Step.step (sym c.in-Step.ensures)

pub returns-in-Step : goal.returns-in-Step
returns-in-Step c = λ known its h.
    c.take-in-Step.ensures known its c.args.form h
    (begins (table_of c.args.program.now) known c.args.tasks.now c.args.self.slot c.args.self.task its c.args.form h c.place-place.result
    (c.place-place.ensures.row known its h.ready.there h.ready.is_task) c.in-Step.step (sym c.in-Step.ensures))
