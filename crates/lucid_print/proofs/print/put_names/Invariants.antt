use Rattle.lucid_print.proofs.Common.{◌≡◌, ◌++◌, drop, parted}
use Rattle.lucid_print.proofs.Loops.{led}
use Rattle.lucid_print.proofs.print.put_names.Given as goal

-- what is written and what is left are the names
abbrev pub invariant-loop-name : goal.invariant-loop-name
invariant-loop-name l = l.to.items ++ led l.before (drop l.name-index l.names) ≡ l.fn.to.items ++ parted l.names
