use Rattle.lucid_equations.proofs.Common.{nothing_held, below, deeper, node_value, node_walk}
use Rattle.lucid_equations.proofs.Moving.{part-read, part-walked}
use Rattle.lucid_equations.proofs.FormNeeds.{look-visited, form-needs}
use Rattle.lucid_equations.proofs.laws.forms_do_what_looks_do.Goals as goal

pub returns-clause-read : goal.returns-clause-read
returns-clause-read z p es i e h g m c t s = part-read p m (below (node_value p) g m) es i e h c t s

pub returns-clause-visited : goal.returns-clause-visited
returns-clause-visited z p es i e h b m d c t s = part-walked p (nothing_held b) m d (deeper (node_walk p (nothing_held b)) m d) es i e h c t s

pub returns-clause-visits : goal.returns-clause-visits
returns-clause-visits z = look-visited

pub returns-clause-needs : goal.returns-clause-needs
returns-clause-needs z = form-needs
