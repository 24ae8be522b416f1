use Rattle.lucid_words.proofs.Common.{map, take, is_given, parts_of, plain_given}
use Rattle.lucid_words.proofs.Each.{EachSoFar}
use Rattle.lucid_words.proofs.forms.all_given.Given as goal

-- the words so far are all inputs, and these are their parts
abbrev pub invariant-loop-text : goal.invariant-loop-text
invariant-loop-text l = EachSoFar is_given parts_of (map (λ text. text.now) (take l.text-index l.texts)) (map plain_given l.all.items)
