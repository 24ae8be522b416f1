use Rattle.lucid_demand_steps.proofs.DecidingCommon.{inl, inr, sym, subst, on_err, In, frozen_frame, context_of, plain_task, passed_contexts}
use Rattle.lucid_equations.specs.Programs.{table_of}
use Rattle.lucid_demand_steps.proofs.Aims.{added-in}
use Rattle.lucid_demand_steps.proofs.Passes.{frozen-way}
use Rattle.lucid_demand_steps.proofs.moving.moved.Goals as goal

pub returns-in_err-enter_frozen-in-Freeze-clause-unknown : goal.returns-in_err-enter_frozen-in-Freeze-clause-unknown
returns-in_err-enter_frozen-in-Freeze-clause-unknown c =
    on_err c.from_residual.result (
      frozen_frame c.args.task.time (context_of c.args.tags.now c.args.task.tag),
      frozen-way (table_of c.args.program.now) (plain_task c.args.tags.now c.args.task) c.in-Freeze.subject c.in-Freeze.ensures.row c.in-Freeze.ensures.meaning,
      c.in_err-enter_frozen-in-Freeze.ensures.unknown,
    )

pub returns-in_ok-enter_frozen-in-Freeze-clause-entered : goal.returns-in_ok-enter_frozen-in-Freeze-clause-entered
returns-in_ok-enter_frozen-in-Freeze-clause-entered c = λ y i.
    elim (added-in c.args.tags.now c.enter_frozen.new.self (frozen_frame c.args.task.time (context_of c.args.tags.now c.args.task.tag)) y
    c.in_ok-enter_frozen-in-Freeze.ensures.added i) [
      | inl j ↦ inl j
      | inr e ↦ inr (subst (λ z. In z (passed_contexts (table_of c.args.program.now) 1 (plain_task c.args.tags.now c.args.task))) (sym e)
          (frozen-way (table_of c.args.program.now) (plain_task c.args.tags.now c.args.task) c.in-Freeze.subject c.in-Freeze.ensures.row
          c.in-Freeze.ensures.meaning))
    ]
