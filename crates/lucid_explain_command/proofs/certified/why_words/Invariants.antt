use Rattle.lucid_explain_command.proofs.Common.{◌≡◌, map, take, string_bytes}
use Rattle.lucid_explain_command.specs.Errors.{why_words}
use Rattle.lucid_explain_command.proofs.certified.why_words.Given as goal

abbrev pub invariant-loop-word : goal.invariant-loop-word
invariant-loop-word l = map string_bytes l.made.items ≡ why_words l.time (map string_bytes (take l.word-index l.words))
