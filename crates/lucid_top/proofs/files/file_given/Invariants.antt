use Rattle.lucid_top.proofs.Common.{◌≡◌, map, drop, plain_given, file_given}
use Rattle.lucid_top.proofs.files.file_given.Given as goal

abbrev pub invariant-loop-word : goal.invariant-loop-word
invariant-loop-word l = file_given (map plain_given (drop l.word-index l.given)) l.name ≡ file_given (map plain_given l.given) l.name
