use Rattle.lucid_demand.proofs.Common.{None}
use Rattle.std.proofs.Common.{◌≡◌}
use Rattle.lucid_demand.specs.Leading.{LeadsTo}
use Rattle.lucid_demand.proofs.turn.Evaluation.ask_operator.Given as goal

abbrev pub invariant-loop : goal.invariant-loop
invariant-loop g l =
    LeadsTo l.fn.self l.self (record { part = l.fn.part; task = l.fn.task; key = l.fn.key }) l.wanted × (l.answer ≡ None)
