use Rattle.lucid_demand_steps.proofs.DecidingCommon.{◌≢◌, inl, inr, sym, subst, ◌∙◌, arith, on_err, nowhere, call_frame, context_of, program_equations}
use Rattle.std.proofs.Common.{Some}
use Rattle.lucid_equations.specs.Datons as aims
use Rattle.lucid_equations.specs.Programs.{table_of}
use Rattle.lucid_demand_steps.proofs.Aims.{few-to_call, no-call, call-of_unknown, daton-of, added-in}
use Rattle.lucid_demand_steps.proofs.aim.call_aim.Goals as goal
use Rattle.lucid_demand_steps.proofs.aim.call_aim.Goals.{then-from-level-via-then-from-level, then-from-level-via-else-from-level+then-not-leads}

pub returns-then-from-level-clause-aim : goal.returns-then-from-level-clause-aim
returns-then-from-level-clause-aim c = elim c.then-from-level.branch [
  | then-from-level-via-then-from-level w ↦
      few-to_call (program_equations c.args.program.now) c.args.call.name c.args.call.place c.args.call.level (context_of c.args.tags.now c.args.tag) c.args.time
      (omega (arith, c.level.ensures.level, c.from.ensures, w.if-from-level.true))
  | then-from-level-via-else-from-level+then-not-leads w ↦
      no-call (program_equations c.args.program.now) c.args.call.name c.args.call.place c.args.call.level (context_of c.args.tags.now c.args.tag) c.args.time
      (w.leads.ensures.nowhere w.if-not-leads.true)
]

pub returns-in_err-inner-clause-unknown : goal.returns-in_err-inner-clause-unknown
returns-in_err-inner-clause-unknown c =
    on_err c.from_residual.result (call-of_unknown (program_equations c.args.program.now) c.args.tags.now c.args.call.name c.args.call.place c.args.call.level
    (context_of c.args.tags.now c.args.tag)
    (context_of c.args.tags.now c.cut-base.result) c.args.time c.cut-base.ensures.context c.in_err-inner.ensures.unknown
    (c.leads.ensures.somewhere c.if-not-leads.false (context_of c.args.tags.now c.args.tag) (context_of c.args.tags.now c.cut-base.result) c.args.time))

pub returns-clause-entered : goal.returns-clause-entered
returns-clause-entered c = λ x i.
    elim (added-in c.args.tags.now c.enter_call.new.self
    (call_frame c.args.call.place (context_of c.args.tags.now c.args.tag) (context_of c.args.tags.now c.cut-base.result)) x c.in_ok-inner.ensures.added i) [
      | inl j ↦ inl j
      | inr e ↦ inr (daton-of (table_of c.args.program.now) c.enter_call.new.self c.by_frame.result
          (aims.name_aim (program_equations c.args.program.now) c.args.call.name (Some (context_of c.enter_call.new.self c.in_ok-inner.inner)) c.args.time)
          c.in_ok-inner.inner x c.by_frame.ensures.aim
          (subst (λ z. aims.name_aim (program_equations c.args.program.now) c.args.call.name (Some z) c.args.time ≢ nowhere) (sym c.in_ok-inner.ensures.context)
          (c.leads.ensures.somewhere c.if-not-leads.false (context_of c.args.tags.now c.args.tag) (context_of c.args.tags.now c.cut-base.result) c.args.time))
          c.by_frame.ensures.own (e ∙ sym c.in_ok-inner.ensures.context))
    ]
