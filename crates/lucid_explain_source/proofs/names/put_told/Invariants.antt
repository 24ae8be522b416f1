use Rattle.lucid_explain_source.proofs.Common.{◌≡◌, ◌++◌, drop, fits, told_text, lent}
use Rattle.lucid_explain_source.proofs.names.put_told.Given as goal

abbrev pub invariant-loop-def : goal.invariant-loop-def
invariant-loop-def l =
    l.text.items ++ told_text l.source (fits l.advice.wanted l.name) l.room (lent (drop l.def-index l.defs))
    ≡ l.initial.text.items ++ told_text l.source (fits l.advice.wanted l.name) l.advice.most (lent l.defs)
