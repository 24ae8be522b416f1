use Rattle.std.proofs.Common.{◌≡◌, drop}
use Rattle.lucid_show_command.specs.Named.{is_one_of}
use Rattle.lucid_show_command.proofs.named.is_one_of.Given as goal

-- it is none of those before
abbrev pub invariant-loop-other : goal.invariant-loop-other
invariant-loop-other l = is_one_of l.names l.name ≡ is_one_of (drop l.other-index l.names) l.name
