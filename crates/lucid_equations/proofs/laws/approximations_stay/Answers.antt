use Rattle.lucid_equations.proofs.NodeGrowth.{node_hval-up, node-meant_once}
use Rattle.lucid_equations.proofs.laws.approximations_stay.Goals as goal

pub returns-clause-stay : goal.returns-clause-stay
returns-clause-stay c = node_hval-up

pub returns-clause-one_value : goal.returns-clause-one_value
returns-clause-one_value c = node-meant_once
