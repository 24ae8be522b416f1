use Rattle.lucid_cert.proofs.Common.{table_of}
use Rattle.lucid_cert.proofs.Walking.{Walks}
use Rattle.lucid_cert.proofs.WalkingWanted.{WalksWanted}
use Rattle.lucid_cert.proofs.walk.certify.Given as goal

-- What is made follows, the root stands, and what waits is wanted by it.
abbrev pub invariant-walk : goal.invariant-walk
invariant-walk g l = Walks (table_of l.program) l.fn.inputs (g.P.Places.world l.fn.places) l.root l.maker l.inputs (g.P.Places.world l.places)
    × WalksWanted (table_of l.program) l.fn.inputs l.limit l.time l.maker l.inputs (g.P.Places.world l.places)
