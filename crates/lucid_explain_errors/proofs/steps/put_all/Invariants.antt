use Rattle.std.proofs.Common.{◌≡◌, ◌++◌, take}
use Rattle.std.specs.List.{flat_map}
use Rattle.lucid_explain_errors.specs.Steps.{plain_sight, step_at}
use Rattle.lucid_explain_errors.proofs.steps.put_all.Given as goal

abbrev pub invariant-loop-number : goal.invariant-loop-number
invariant-loop-number l = l.text.items ≡ l.initial.text.items ++ flat_map (step_at (plain_sight l.sight)) (take l.number-index l.numbers)
