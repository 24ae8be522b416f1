use Rattle.lucid_value.proofs.Common.{◌≡◌, reverse, after_blanks}
use Rattle.std.proofs.Common.{length}
use Rattle.lucid_value.proofs.read.trim_end.Given as goal

abbrev pub invariant-loop-last : goal.invariant-loop-last
invariant-loop-last l = after_blanks (reverse l.rest) ≡ after_blanks (reverse l.fn.bytes)

abbrev pub decreases-loop-last : goal.decreases-loop-last
decreases-loop-last l = length l.rest
