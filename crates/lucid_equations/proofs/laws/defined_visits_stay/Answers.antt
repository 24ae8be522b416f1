use Rattle.lucid_equations.proofs.NodeWalks.{visits-stay, needed-visited}
use Rattle.lucid_equations.proofs.laws.defined_visits_stay.Goals as goal

pub returns-clause-stay : goal.returns-clause-stay
returns-clause-stay c = visits-stay

pub returns-clause-needed : goal.returns-clause-needed
returns-clause-needed c p b m e f t s v d a = (needed-visited p b m e f t s v d a, (λ i. (m, v, a, i)))
