use Rattle.lucid_equations.proofs.Common.{drop, ◌↔◌, EachBelow}
use Rattle.lucid_equations.proofs.range.are_below.Given as goal

-- all are below where those from this one on are
abbrev pub invariant-loop-id : goal.invariant-loop-id
invariant-loop-id l = EachBelow l.bound (drop l.id-index l.ids) ↔ EachBelow l.bound l.ids
