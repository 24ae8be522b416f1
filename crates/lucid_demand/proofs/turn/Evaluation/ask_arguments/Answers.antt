use Rattle.lucid_demand.proofs.Common.{slice_get-get_or, ◌+◌, sym, ap, ◌∙◌, subst, arith, rules, slice_index_or, TaskRow, Evaluating, Stepped, gave}
use Rattle.std.proofs.Common.{◌≡◌, ◌<◌, Ok, Some, length}
use Rattle.std.specs.Prelude.{option_map}
use Rattle.lucid_tasks.specs.Rows.{row_at}
use Rattle.lucid_demand.proofs.TakenParts.{err_is}
use Rattle.lucid_demand.proofs.AskedRows.{AskedBelow, told_none, told_some, asks_begin, argument_node, can_ask_argument, argument_is_there, part_is_next, asks_refused, asks_end}
use Rattle.lucid_demand.proofs.turn.Evaluation.ask_arguments.Goals as goal
use Rattle.lucid_demand.proofs.turn.Evaluation.ask_arguments.Goals.{then-is_none+in_ok-ask, else-is_none}

pub loop-index-init : goal.loop-index-init
loop-index-init g c = (
  asks_begin c.args.self.now c.args.slot c.args.op c.args.args c.task-task.result c.requires.can.ready
      (subst (λ (e : Evaluating). option_map (λ (row : TaskRow). row.task) (row_at e.rows c.args.slot) ≡ Some c.task-task.result) c.self.view_is
      c.task-task.ensures),
  c.requires.open,
)

pub argument-requires-clause-node : goal.argument-requires-clause-node
argument-requires-clause-node g c =
    argument_node c.args.self.now c.loop-index.self c.args.slot c.args.op c.args.args c.task-task.result c.loop-index.index c.loop-index.invariant.0
    c.requires.can.ready
    (slice_index_or c.args.args c.loop-index.index 0) c.requires.can (omega arith)
    (slice_get-get_or c.args.args c.loop-index.index 0 (let l : c.loop-index.index < length c.args.args = search rules in l))

pub ask-requires-clause-can : goal.ask-requires-clause-can
ask-requires-clause-can g c =
    can_ask_argument c.args.self.now c.loop-index.self c.args.slot c.args.op c.args.args c.task-task.result c.loop-index.index c.loop-index.invariant.0
    c.requires.can.ready
    (slice_index_or c.args.args c.loop-index.index 0)
    (told_none c.loop-index.self c.args.slot c.loop-index.index _ c.argument.result c.argument.ensures c.if-is_none.ensures)
    c.requires.can (omega arith) (omega arith) (slice_get-get_or c.args.args c.loop-index.index 0
    (let l : c.loop-index.index < length c.args.args = search rules in l))

pub returns-in_err-ask : goal.returns-in_err-ask
returns-in_err-ask g c = λ i act.
    subst (λ r. Stepped i.demand c.args.self.now c.ask.new.self i.world i.world (gave r c.ask.new.answer))
    (sym (err_is c.from_residual.result c.in_err-ask.field-0.0 c.from_residual.ensures.1))
    (asks_refused c.args.self.now c.loop-index.self c.args.slot c.args.op c.args.args c.task-task.result c.loop-index.index c.loop-index.invariant.0
    c.requires.can.ready
    (slice_index_or c.args.args c.loop-index.index 0)
    (told_none c.loop-index.self c.args.slot c.loop-index.index _ c.argument.result c.argument.ensures c.if-is_none.ensures)
    c.ask.new.self (omega arith) (omega arith) (slice_get-get_or c.args.args c.loop-index.index 0
    (let l : c.loop-index.index < length c.args.args = search rules in l)) c.in_err-ask.field-0.0 c.in_err-ask.ensures.asks i act)

pub loop-index-preserved : goal.loop-index-preserved
loop-index-preserved g c = elim c.if-is_none.branch [
  | then-is_none+in_ok-ask w ↦ (
    subst (λ z. AskedBelow c.args.self.now z c.args.slot c.args.op c.args.args c.task-task.result (c.loop-index.index + 1)) (sym w.self-is)
        (part_is_next c.args.self.now c.loop-index.self c.args.slot c.args.op c.args.args c.task-task.result c.loop-index.index c.loop-index.invariant.0
        c.requires.can.ready
        (slice_index_or c.args.args c.loop-index.index 0)
        (told_none c.loop-index.self c.args.slot c.loop-index.index _ c.argument.result c.argument.ensures w.if-is_none.ensures)
        w.ask.new.self w.in_ok-ask.ensures.sets (omega arith) (omega arith)
        (slice_get-get_or c.args.args c.loop-index.index 0 (let l : c.loop-index.index < length c.args.args = search rules in l))
        (gave w.ask.result w.ask.new.answer) (ap (λ r. gave r w.ask.new.answer) w.in_ok-ask.was ∙ ap Ok w.ask.ensures.open) w.ask.ensures.asks),
    w.answer-is ∙ w.ask.ensures.open,
  )
  | else-is_none w ↦ (
    subst (λ z. AskedBelow c.args.self.now z c.args.slot c.args.op c.args.args c.task-task.result (c.loop-index.index + 1)) (sym w.self-is)
        (argument_is_there c.args.self.now c.loop-index.self c.args.slot c.args.op c.args.args c.task-task.result c.loop-index.index c.loop-index.invariant.0
        c.requires.can.ready
        (slice_index_or c.args.args c.loop-index.index 0)
        (slice_get-get_or c.args.args c.loop-index.index 0 (let l : c.loop-index.index < length c.args.args = search rules in l))
        (told_some c.loop-index.self c.args.slot c.loop-index.index _ c.argument.result c.argument.ensures w.if-is_none.ensures)),
    w.answer-is ∙ c.loop-index.invariant.1,
  )
]

pub returns : goal.returns
returns g c = λ i act.
    subst (λ o. Stepped i.demand c.args.self.now c.loop-index.self i.world i.world (Ok o)) (sym c.loop-index.invariant.1)
    (asks_end c.args.self.now c.loop-index.self c.args.slot c.args.op c.args.args c.task-task.result c.loop-index.index c.loop-index.invariant.0
    c.requires.can.ready (omega arith) i act)
