use Rattle.lucid_equations.proofs.PartsRead.{row-node, part-lower, part-node, part-value, part-visits}
use Rattle.lucid_equations.proofs.laws.parts_are_their_nodes.Goals as goal

pub returns-clause-rows : goal.returns-clause-rows
returns-clause-rows z = row-node

pub returns-clause-lower : goal.returns-clause-lower
returns-clause-lower z = part-lower

pub returns-clause-nodes : goal.returns-clause-nodes
returns-clause-nodes z = part-node

pub returns-clause-values : goal.returns-clause-values
returns-clause-values z = part-value

pub returns-clause-visits : goal.returns-clause-visits
returns-clause-visits z = part-visits
