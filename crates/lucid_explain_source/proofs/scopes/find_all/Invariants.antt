use Rattle.lucid_explain_source.proofs.Common.{◌≡◌, ◌++◌, lent}
use Rattle.lucid_explain_source.specs.Scopes.{listed}
use Rattle.lucid_explain_source.proofs.scopes.find_all.Given as goal

abbrev pub invariant-loop-def : goal.invariant-loop-def
invariant-loop-def l =
    (goal.iterator-loop-def).can_next l.def-iterator
    × (goal.iterator-loop-def).is_finite l.def-iterator
    × (lent l.found.items ++ listed l.def-iterator ≡ lent l.initial.found.items ++ listed l.fn.defs)
