use Rattle.lucid_top.proofs.Common.{subst, sym, plain_words, Task}
use Rattle.lucid_top.specs.Coming.{MayBegin}
use Rattle.lucid_top.proofs.Answering.{none_asked, these_asked}
use Rattle.lucid_top.proofs.top.do_words.Goals as goal

pub run_task-requires-clause-may : goal.run_task-requires-clause-may
run_task-requires-clause-may g c = subst (λ (t : Task). MayBegin c.args.words.now t (g.P.Places.world c.args.places.now)) (sym c.in-Run.ensures.task) c.requires

pub run_task-requires-clause-form : goal.run_task-requires-clause-form
run_task-requires-clause-form g c = c.in-Run.ensures.said

pub run_task-requires-clause-asked : goal.run_task-requires-clause-asked
run_task-requires-clause-asked g c = none_asked (plain_words c.args.words.now) (sym c.in-Run.ensures.task)

pub columns_task-requires-clause-may : goal.columns_task-requires-clause-may
columns_task-requires-clause-may g c = subst (λ (t : Task). MayBegin c.args.words.now t (g.P.Places.world c.args.places.now)) (sym c.in-Columns.ensures.task) c.requires

pub columns_task-requires-clause-asked : goal.columns_task-requires-clause-asked
columns_task-requires-clause-asked g c =
    these_asked (plain_words c.args.words.now) _ (sym c.in-Columns.ensures.task) c.in-Columns.ensures.said

pub print_task-requires : goal.print_task-requires
print_task-requires g c = subst (λ (t : Task). MayBegin c.args.words.now t (g.P.Places.world c.args.places.now)) (sym c.in-Print.ensures.task) c.requires

pub cycles_task-requires : goal.cycles_task-requires
cycles_task-requires g c = subst (λ (t : Task). MayBegin c.args.words.now t (g.P.Places.world c.args.places.now)) (sym c.in-Cycles.ensures.task) c.requires

pub flat_task-requires : goal.flat_task-requires
flat_task-requires g c = subst (λ (t : Task). MayBegin c.args.words.now t (g.P.Places.world c.args.places.now)) (sym c.in-Flat.ensures.task) c.requires

pub check_task-requires-clause-may : goal.check_task-requires-clause-may
check_task-requires-clause-may g c = subst (λ (t : Task). MayBegin c.args.words.now t (g.P.Places.world c.args.places.now)) (sym c.in-Check.ensures.task) c.requires

pub check_task-requires-clause-file : goal.check_task-requires-clause-file
check_task-requires-clause-file g c = c.in-Check.ensures.said

pub why_task-requires-clause-may : goal.why_task-requires-clause-may
why_task-requires-clause-may g c = subst (λ (t : Task). MayBegin c.args.words.now t (g.P.Places.world c.args.places.now)) (sym c.in-Why.ensures.task) c.requires

pub why_task-requires-clause-time : goal.why_task-requires-clause-time
why_task-requires-clause-time g c = c.in-Why.ensures.said

pub returns-in-Print : goal.returns-in-Print
returns-in-Print g c = c.print_task.ensures _

pub returns-in-Cycles : goal.returns-in-Cycles
returns-in-Cycles g c = c.cycles_task.ensures _

pub returns-in-Flat : goal.returns-in-Flat
returns-in-Flat g c = c.flat_task.ensures _

pub returns-in-Check : goal.returns-in-Check
returns-in-Check g c = c.check_task.ensures _

pub returns-in-Why : goal.returns-in-Why
returns-in-Why g c = c.why_task.ensures _
