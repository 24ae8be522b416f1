use Rattle.lucid_demand.proofs.Common.{None}
use Rattle.std.proofs.Common.{◌≡◌}
use Rattle.lucid_demand.proofs.AskedRows.{AskedBelow}
use Rattle.lucid_demand.proofs.turn.Evaluation.ask_arguments.Given as goal

abbrev pub invariant-loop-index : goal.invariant-loop-index
invariant-loop-index g l = AskedBelow l.fn.self l.self l.slot l.fn.op l.fn.args l.task l.index × (l.answer ≡ None)
