use Rattle.lucid_value.proofs.Common.{◌≡◌, after_blanks}
use Rattle.std.proofs.Common.{length}
use Rattle.lucid_value.proofs.read.trim_start.Given as goal

abbrev pub invariant-loop-first : goal.invariant-loop-first
invariant-loop-first l = after_blanks l.rest ≡ after_blanks l.fn.bytes

abbrev pub decreases-loop-first : goal.decreases-loop-first
decreases-loop-first l = length l.rest
