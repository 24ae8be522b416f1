use Rattle.lucid_equations.proofs.NodeMeant.{node_hval-meant, node_hval-more}
use Rattle.lucid_equations.proofs.laws.held_values_are_meant.Goals as goal

pub returns-clause-meant : goal.returns-clause-meant
returns-clause-meant c = node_hval-meant

pub returns-clause-more : goal.returns-clause-more
returns-clause-more c p g h more meant m e d t s v a = node_hval-more p g h more meant m e d t s v a
