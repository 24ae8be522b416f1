use Rattle.lucid_cert.proofs.CheckCommon.{table_of}
use Rattle.lucid_cert.proofs.CheckGoing.{GoesOn}
use Rattle.lucid_cert.proofs.check.check_why.Given as goal

-- The judgments so far follow, and none of their elements lies past.
abbrev pub invariant-loop-number : goal.invariant-loop-number
invariant-loop-number g l = GoesOn (table_of l.program) l.why l.fn.inputs (g.P.Places.world l.fn.places) l.number l.check l.inputs (g.P.Places.world l.places)
