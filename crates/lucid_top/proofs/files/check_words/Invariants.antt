use Rattle.lucid_top.proofs.Common.{map, plain_given, AreRightBelow}
use Rattle.lucid_top.proofs.files.check_words.Given as goal

abbrev pub invariant-loop-k : goal.invariant-loop-k
invariant-loop-k l = AreRightBelow l.free (map plain_given l.given) l.k
