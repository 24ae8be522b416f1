use Rattle.std.proofs.Common.{◌≡◌, drop}
use Rattle.lucid_explain_source.specs.Scopes.{lent}
use Rattle.lucid_show_command.specs.Named.{is_defined}
use Rattle.lucid_show_command.proofs.named.is_defined.Given as goal

-- none of those before is or has it
abbrev pub invariant-loop-def : goal.invariant-loop-def
invariant-loop-def l = is_defined (lent l.defs) l.name ≡ is_defined (lent (drop l.def-index l.defs)) l.name
