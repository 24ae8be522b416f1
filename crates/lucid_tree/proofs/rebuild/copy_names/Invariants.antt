use Rattle.lucid_tree.proofs.Common.{◌≡◌, take}
use Rattle.lucid_tree.proofs.rebuild.copy_names.Given as goal

abbrev pub invariant-loop-name : goal.invariant-loop-name
invariant-loop-name l = l.copies.items ≡ take l.name-index l.items
