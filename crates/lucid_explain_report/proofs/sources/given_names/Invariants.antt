use Rattle.lucid_explain_report.proofs.Common.{◌≡◌, map, take, plain_given, names_given}
use Rattle.lucid_explain_report.proofs.sources.given_names.Given as goal

abbrev pub invariant-loop-word : goal.invariant-loop-word
invariant-loop-word l = l.names.items ≡ names_given (map plain_given (take l.word-index l.given))
