use Rattle.lucid_equations.proofs.Moving.{moved-value, moved-visits, moved-needs}
use Rattle.lucid_equations.proofs.laws.moving_is_the_part_there.Goals as goal

pub returns-clause-values : goal.returns-clause-values
returns-clause-values c = moved-value

pub returns-clause-visits : goal.returns-clause-visits
returns-clause-visits c = moved-visits

pub returns-clause-needed : goal.returns-clause-needed
returns-clause-needed c = moved-needs
