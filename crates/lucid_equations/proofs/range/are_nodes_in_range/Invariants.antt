use Rattle.lucid_equations.proofs.Common.{drop, ◌↔◌, sizes, NodesAreInRange}
use Rattle.lucid_equations.proofs.range.are_nodes_in_range.Given as goal

-- all rows are in range where those from this one on are
abbrev pub invariant-loop-id : goal.invariant-loop-id
invariant-loop-id l = NodesAreInRange (sizes l.table) l.id (drop l.id l.rows) ↔ NodesAreInRange (sizes l.table) 0 l.rows
