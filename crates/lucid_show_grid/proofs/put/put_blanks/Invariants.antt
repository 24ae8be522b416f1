use Rattle.std.proofs.Common.{◌≡◌, ◌++◌, replicate}
use Rattle.lucid_show_grid.proofs.put.put_blanks.Given as goal

-- so many blanks are appended
abbrev pub invariant-loop-blank : goal.invariant-loop-blank
invariant-loop-blank l = l.to.items ≡ l.initial.to.items ++ replicate l._blank 32
