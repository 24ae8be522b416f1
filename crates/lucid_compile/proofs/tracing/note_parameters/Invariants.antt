use Rattle.lucid_compile.proofs.Common.{◌≡◌, ◌++◌, take}
use Rattle.lucid_compile.specs.Origins.{parameter_spots}
use Rattle.lucid_compile.proofs.tracing.note_parameters.Given as goal

-- the parameters before this one are noted
abbrev pub invariant-loop-at : goal.invariant-loop-at
invariant-loop-at l = l.found.items ≡ l.initial.found.items ++ parameter_spots (take l.at-index l.places)
