use Rattle.lucid_explain_source.proofs.Common.{◌≡◌, ◌++◌, drop, lent, heads}
use Rattle.lucid_explain_source.proofs.names.heads.Given as goal

abbrev pub invariant-loop-def : goal.invariant-loop-def
invariant-loop-def l = lent l.those.items ++ heads l.at (lent (drop l.def-index l.defs)) ≡ heads l.at (lent l.defs)
