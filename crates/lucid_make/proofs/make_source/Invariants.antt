use Rattle.std.proofs.Common.{◌≡◌, ◌-◌}
use Rattle.std.specs.String.{string_bytes}
use Rattle.lucid_make.proofs.Lines.{text_through}
use Rattle.lucid_make.proofs.make_source.Given as goal

-- the definitions before this one are written
abbrev pub invariant-loop-number : goal.invariant-loop-number
invariant-loop-number l = string_bytes l.source ≡ text_through l.n (l.number - 1)
