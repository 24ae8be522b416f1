use Rattle.lucid_explain_places.proofs.Common.{◌≡◌, ◌++◌, replicate}
use Rattle.lucid_explain_places.proofs.shown.put_caret.Given as goal

-- so many blanks are appended
abbrev pub invariant-loop-blank : goal.invariant-loop-blank
invariant-loop-blank l = l.text.items ≡ l.initial.text.items ++ replicate l._blank 32
