use Rattle.lucid_demand_steps.proofs.DecidingCommon.{sym, ap, ◌∙◌, subst, arith, plain_row}
use Rattle.std.proofs.Common.{length}
use Rattle.lucid_equations.specs.Steps.{judged}
use Rattle.lucid_equations.specs.Programs.{table_of}
use Rattle.lucid_demand_steps.specs.Justified.{Justified}
use Rattle.lucid_demand_steps.specs.Taken.{parts_at, settled}
use Rattle.lucid_demand_steps.proofs.DecidingTaking.{has_part, asks_part, judges_part, asks_judged, gives_it, looks_on, has_nothing}
use Rattle.lucid_demand_steps.proofs.Within.{part_look, judged_look}
use Rattle.lucid_demand_steps.proofs.decision.Ready.take.Goals as goal

pub got-requires-clause-index : goal.got-requires-clause-index
got-requires-clause-index c =
    let low = part_look (length (parts_at (table_of c.args.program.now) c.args.self.task.node)) c.args.step c.in-Part.at c.in-Part.is c.requires.looks in
    omega (arith, low.0, c.requires.few)

pub ask-requires-clause-part : goal.ask-requires-clause-part
ask-requires-clause-part c =
    (part_look (length (parts_at (table_of c.args.program.now) c.args.self.task.node)) c.args.step c.in-Part.at c.in-Part.is c.requires.looks).0

pub ask-requires-clause-space : goal.ask-requires-clause-space
ask-requires-clause-space c =
    (part_look (length (parts_at (table_of c.args.program.now) c.args.self.task.node)) c.args.step c.in-Part.at c.in-Part.is c.requires.looks).1

pub returns-in-Some : goal.returns-in-Some
returns-in-Some c = λ known its f h may.
    let low = part_look (length (parts_at (table_of c.args.program.now) c.args.self.task.node)) c.args.step c.in-Part.at c.in-Part.is c.requires.looks in
    has_part (table_of c.args.program.now) known c.args.tasks.now c.args.self.slot c.args.self.task its f h c.args.step c.in-Part.at
    c.in-Part.is may (omega (arith, low.0, c.requires.few)) c.in-Some.field-0.now (sym c.in-Some.ensures)

pub returns-in-None : goal.returns-in-None
returns-in-None c = λ known its f h may.
    let low = part_look (length (parts_at (table_of c.args.program.now) c.args.self.task.node)) c.args.step c.in-Part.at c.in-Part.is c.requires.looks in
    asks_part (table_of c.args.program.now) known c.args.tasks.now c.args.self.slot c.args.self.task its f h c.args.step c.in-Part.at
    c.in-Part.is may low.0 (omega (arith, low.0, c.requires.few)) (sym c.in-None.ensures) c.ask.result c.ask.ensures

pub got-requires-in-Judge-clause-index : goal.got-requires-in-Judge-clause-index
got-requires-in-Judge-clause-index c =
    let low = judged_look (length (parts_at (table_of c.args.program.now) c.args.self.task.node)) c.args.step c.in-Judge.at c.in-Judge.is c.requires.looks in
    omega (arith, low.0, c.requires.few)

pub ask-requires-in-None-got-clause-part : goal.ask-requires-in-None-got-clause-part
ask-requires-in-None-got-clause-part c =
    (judged_look (length (parts_at (table_of c.args.program.now) c.args.self.task.node)) c.args.step c.in-Judge.at c.in-Judge.is c.requires.looks).0

pub ask-requires-in-None-got-clause-space : goal.ask-requires-in-None-got-clause-space
ask-requires-in-None-got-clause-space c =
    (judged_look (length (parts_at (table_of c.args.program.now) c.args.self.task.node)) c.args.step c.in-Judge.at c.in-Judge.is c.requires.looks).1

pub returns-in-Some-got : goal.returns-in-Some-got
returns-in-Some-got c = λ known its f h may.
    subst (Justified (table_of c.args.program.now) known (plain_row known its))
    (sym (c.settled.ensures ∙ ap settled (c.judged.ensures ∙ ap judged c.of.ensures.answer)))
    (judges_part (table_of c.args.program.now) known c.args.tasks.now c.args.self.slot c.args.self.task its f h c.args.step c.in-Judge.at c.in-Judge.is may c.in-Some-got.value.now (sym c.in-Some-got.ensures))

pub returns-in-None-got : goal.returns-in-None-got
returns-in-None-got c = λ known its f h may.
    let low = judged_look (length (parts_at (table_of c.args.program.now) c.args.self.task.node)) c.args.step c.in-Judge.at c.in-Judge.is c.requires.looks in
    asks_judged (table_of c.args.program.now) known c.args.tasks.now c.args.self.slot c.args.self.task its f h c.args.step c.in-Judge.at c.in-Judge.is may low.0 (omega (arith, low.0, c.requires.few)) (sym c.in-None-got.ensures) c.ask-in-None-got.result c.ask-in-None-got.ensures

pub returns-in-Give : goal.returns-in-Give
returns-in-Give c = λ known its f h may.
    subst (Justified (table_of c.args.program.now) known (plain_row known its)) (sym c.settled-in-Give.ensures)
    (gives_it (table_of c.args.program.now) known c.args.tasks.now c.args.self.slot c.args.self.task its f h c.args.step c.in-Give.given c.in-Give.is may)

pub returns-in-On : goal.returns-in-On
returns-in-On c = λ known its f h may.
    looks_on (table_of c.args.program.now) known c.args.tasks.now c.args.self.slot c.args.self.task its f h c.args.step c.in-On.seen c.in-On.is may

pub returns-in-Nothing : goal.returns-in-Nothing
returns-in-Nothing c = λ known its f h may.
    has_nothing (table_of c.args.program.now) known c.args.tasks.now c.args.self.slot c.args.self.task its f h c.args.step c.in-Nothing.is may
