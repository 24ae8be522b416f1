use Rattle.lucid_explain_report.proofs.Common.{◌≡◌, ◌++◌, map, take, string_bytes}
use Rattle.lucid_explain_report.specs.Said.{texts_of}
use Rattle.lucid_explain_report.proofs.usage.add_words.Given as goal

abbrev pub invariant-loop-word : goal.invariant-loop-word
invariant-loop-word l = map string_bytes l.words.items ≡ map string_bytes l.fn.words.items ++ texts_of (take l.word-index l.end)
