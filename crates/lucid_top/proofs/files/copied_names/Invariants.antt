use Rattle.lucid_top.proofs.Common.{◌≡◌}
use Rattle.std.proofs.Common.{take}
use Rattle.lucid_top.proofs.files.copied_names.Given as goal

abbrev pub invariant-loop-name : goal.invariant-loop-name
invariant-loop-name l = l.copies.items ≡ take l.name-index l.names
