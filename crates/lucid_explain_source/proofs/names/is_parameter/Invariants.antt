use Rattle.lucid_explain_source.proofs.Common.{◌≡◌, drop, lent}
use Rattle.lucid_explain_source.specs.Names.{is_parameter}
use Rattle.lucid_explain_source.proofs.names.is_parameter.Given as goal

abbrev pub invariant-loop-def : goal.invariant-loop-def
invariant-loop-def l = is_parameter l.name (lent l.defs) ≡ is_parameter l.name (lent (drop l.def-index l.defs))
