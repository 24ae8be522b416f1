use Rattle.lucid_compile.proofs.Common.{◌≡◌, take}
use Rattle.lucid_compile.proofs.compiler.copied.Given as goal

abbrev pub invariant-loop-name : goal.invariant-loop-name
invariant-loop-name l = l.made.items ≡ take l.name-index l.names
