use Rattle.std.proofs.Common.{◌≡◌, ◌++◌, drop}
use Rattle.lucid_show_grid.specs.Escapes.{escaped}
use Rattle.lucid_show_grid.proofs.escape.put_escaped.Given as goal

-- what is written and what is left are all
abbrev pub invariant-loop-byte : goal.invariant-loop-byte
invariant-loop-byte l = l.to.items ++ escaped (drop l.byte-index l.text) ≡ l.initial.to.items ++ escaped l.text
