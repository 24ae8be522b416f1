use Rattle.std.proofs.Common.{◌≡◌, drop}
use Rattle.lucid_explain_source.specs.Scopes.{lent}
use Rattle.lucid_explain_run.specs.Inputs.{first_named}
use Rattle.lucid_explain_run.proofs.inputs.find_named.Given as goal

abbrev pub invariant-loop-def : goal.invariant-loop-def
invariant-loop-def l = first_named l.name (lent l.defs) ≡ first_named l.name (lent (drop l.def-index l.defs))
