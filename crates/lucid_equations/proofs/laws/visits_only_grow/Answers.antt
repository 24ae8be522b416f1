use Rattle.lucid_equations.proofs.Common.{add-one}
use Rattle.lucid_equations.proofs.NodeWalks.{node_visits-up, node_visits-wider}
use Rattle.lucid_equations.proofs.AddedNumbers.{added_is_limit}
use Rattle.lucid_equations.proofs.VisitsGrow.{visits-more}
use Rattle.lucid_equations.proofs.laws.visits_only_grow.Goals as goal

pub returns-clause-with_limit : goal.returns-clause-with_limit
returns-clause-with_limit c p b m d e f t s = rw (add-one m) (node_visits-up p b m d e f t s)

pub returns-clause-with_added : goal.returns-clause-with_added
returns-clause-with_added c p b m d e f t s = rw (add-one d) (node_visits-wider p b m d e f t s)

pub returns-clause-at_sum : goal.returns-clause-at_sum
returns-clause-at_sum c = added_is_limit

pub returns-clause-more : goal.returns-clause-more
returns-clause-more c p b m n d k h g e f t s = visits-more p b m n d k h g e f t s
