use Rattle.std.proofs.Common.{ℕ, ◌<◌}
use Rattle.lucid_explain_run.specs.Inputs.{StandsAt}
use Rattle.lucid_explain_run.proofs.inputs.first_place.Given as goal

-- At no place so far does it.
abbrev pub invariant-loop-at : goal.invariant-loop-at
invariant-loop-at l = (before : ℕ) → before < l.at → StandsAt l.scoped l.stream before → ⊥
