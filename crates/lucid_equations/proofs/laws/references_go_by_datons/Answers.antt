use Rattle.lucid_equations.proofs.NodeAims.{reference-by_daton, call-by_daton, node-by_daton}
use Rattle.lucid_equations.proofs.laws.references_go_by_datons.Goals as goal

pub returns-clause-references : goal.returns-clause-references
returns-clause-references c = reference-by_daton

pub returns-clause-calls : goal.returns-clause-calls
returns-clause-calls c = call-by_daton

pub returns-clause-nodes : goal.returns-clause-nodes
returns-clause-nodes c = node-by_daton
