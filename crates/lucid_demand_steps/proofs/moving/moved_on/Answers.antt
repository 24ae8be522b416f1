use Rattle.lucid_demand_steps.proofs.DecidingCommon.{sym, ap, subst, ◌∙◌, on_err, IsKnown, plain_task}
use Rattle.std.proofs.Common.{IfSome, option_map}
use Rattle.lucid_equations.specs.Programs.{table_of}
use Rattle.lucid_demand_steps.proofs.Passes.{passes-on, next-lower, entered-end, keeps-end, unknown-on}
use Rattle.lucid_demand_steps.proofs.moving.moved_on.Goals as goal

pub returns-in_err-next-clause-entered : goal.returns-in_err-next-clause-entered
returns-in_err-next-clause-entered c = entered-end (table_of c.args.program.now) c.args.tags.now c.loop-next.tags c.moved.new.tags c.args.task c.loop-next.task
    c.loop-next.invariant c.moved.ensures.entered

pub returns-in_err-next-clause-unknown : goal.returns-in_err-next-clause-unknown
returns-in_err-next-clause-unknown c = on_err c.from_residual.result
    (unknown-on (table_of c.args.program.now) c.args.tags.now c.loop-next.tags c.args.task c.loop-next.task c.loop-next.invariant c.in_err-next.ensures.unknown)

pub returns-in_err-next-clause-keeps : goal.returns-in_err-next-clause-keeps
returns-in_err-next-clause-keeps c = keeps-end (table_of c.args.program.now) c.args.tags.now c.loop-next.tags c.moved.new.tags c.args.task c.loop-next.task
    c.loop-next.invariant c.moved.ensures.keeps

pub loop-next-smaller : goal.loop-next-smaller
loop-next-smaller c = next-lower (table_of c.args.program.now) c.args.program.now.in_range c.loop-next.tags c.moved.new.tags c.loop-next.task c.in-Some.next
    (sym (ap (option_map (plain_task c.moved.new.tags)) c.in-Some.is) ∙ c.in_ok-next.ensures.moved)

pub loop-next-preserved : goal.loop-next-preserved
loop-next-preserved c = passes-on (table_of c.args.program.now) c.args.program.now.in_range c.args.tags.now c.loop-next.tags c.moved.new.tags c.args.task
    c.loop-next.task c.in-Some.next c.loop-next.invariant
    (sym (ap (option_map (plain_task c.moved.new.tags)) c.in-Some.is) ∙ c.in_ok-next.ensures.moved)
    (subst (λ o. IfSome o (λ y. IsKnown c.moved.new.tags y.tag)) c.in-Some.is c.in_ok-next.ensures.next_known) c.moved.ensures.entered c.moved.ensures.keeps
    c.moved.ensures.one_for_one

pub returns-clause-entered : goal.returns-clause-entered
returns-clause-entered c = entered-end (table_of c.args.program.now) c.args.tags.now c.loop-next.tags c.moved.new.tags c.args.task c.loop-next.task
    c.loop-next.invariant c.moved.ensures.entered

pub returns-clause-keeps : goal.returns-clause-keeps
returns-clause-keeps c = keeps-end (table_of c.args.program.now) c.args.tags.now c.loop-next.tags c.moved.new.tags c.args.task c.loop-next.task
    c.loop-next.invariant c.moved.ensures.keeps
