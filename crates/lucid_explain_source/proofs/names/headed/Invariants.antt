use Rattle.lucid_explain_source.proofs.Common.{◌≡◌, drop, lent}
use Rattle.lucid_explain_source.specs.Names.{headed}
use Rattle.lucid_explain_source.proofs.names.headed.Given as goal

abbrev pub invariant-loop-def : goal.invariant-loop-def
invariant-loop-def l = headed l.at (lent l.defs) ≡ headed l.at (lent (drop l.def-index l.defs))
