use Rattle.lucid_cert.proofs.CheckCommon.{context_of, table_of, plain_judgment, judgments_of, contexts_in}
use Rattle.lucid_cert.proofs.Feeding.{FedSoFar}
use Rattle.lucid_cert.proofs.check.Check.fed.Given as goal

-- The plan is fed by the uses so far.
abbrev pub invariant-loop-number : goal.invariant-loop-number
invariant-loop-number l =
    FedSoFar (table_of l.self.program.now) (contexts_in l.self) (judgments_of l.self) l.before l.node (context_of l.self.tags l.context) (plain_judgment l.row)
    l.number-index l.rest
