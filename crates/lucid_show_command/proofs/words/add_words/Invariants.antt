use Rattle.lucid_show_command.proofs.Common.{◌≡◌, ◌++◌, map, take, string_bytes}
use Rattle.lucid_show_command.proofs.words.add_words.Given as goal

-- the words before this one are added
abbrev pub invariant-loop-word : goal.invariant-loop-word
invariant-loop-word l = map string_bytes l.words.items ≡ map string_bytes l.fn.words.items ++ map (λ word. word.now) (take l.word-index l.more)
