use Rattle.lucid_explain_source.proofs.Common.{◌≡◌, drop, find, lent}
use Rattle.lucid_explain_source.specs.Names.{is_before}
use Rattle.lucid_explain_source.proofs.names.find_before.Given as goal

abbrev pub invariant-loop-def : goal.invariant-loop-def
invariant-loop-def l = find (is_before l.at (lent l.these)) (lent l.defs) ≡ find (is_before l.at (lent l.these)) (lent (drop l.def-index l.defs))
