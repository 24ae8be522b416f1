use Rattle.lucid_top.proofs.Common.{◌≡◌, map, plain_given, files_for}
use Rattle.std.proofs.Common.{take}
use Rattle.lucid_top.proofs.files.files_for.Given as goal

abbrev pub invariant-loop-name : goal.invariant-loop-name
invariant-loop-name l = map (λ file. file.now) l.files.items ≡ files_for (take l.name-index l.free) (map plain_given l.given)
