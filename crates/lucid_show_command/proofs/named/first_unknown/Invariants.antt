use Rattle.std.proofs.Common.{◌≡◌, drop}
use Rattle.lucid_explain_source.specs.Scopes.{lent}
use Rattle.lucid_show_command.specs.Named.{first_unknown}
use Rattle.lucid_show_command.proofs.named.first_unknown.Given as goal

-- the program has those before
abbrev pub invariant-loop-name : goal.invariant-loop-name
invariant-loop-name l = first_unknown (lent l.defs) l.inputs l.names ≡ first_unknown (lent l.defs) l.inputs (drop l.name-index l.names)
