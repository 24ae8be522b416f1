use Rattle.lucid_compile.proofs.Common.{◌≡◌, ◌++◌, map, take, drop, linked_row, numbered}
use Rattle.lucid_compile.proofs.linking.link_nodes.Given as goal

-- the nodes before this one are linked
abbrev pub invariant-loop-row : goal.invariant-loop-row
invariant-loop-row l = l.nodes ≡ map (linked_row (numbered l.source)) (take l.row-index l.initial.nodes) ++ drop l.row-index l.initial.nodes
