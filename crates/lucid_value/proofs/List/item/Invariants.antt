use Rattle.lucid_value.proofs.Common.{◌≡◌}
use Rattle.std.proofs.Common.{slice_get}
use Rattle.lucid_value.specs.Plain.{listed}
use Rattle.lucid_value.proofs.List.item.Given as goal

abbrev pub invariant-loop-rest : goal.invariant-loop-rest
invariant-loop-rest l = slice_get (listed l.rest) l.left ≡ slice_get (listed l.initial.rest) l.initial.left
