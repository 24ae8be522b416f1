use Rattle.lucid_equations.proofs.Common.{refl}
use Rattle.lucid_equations.proofs.Moving.{frozen-needs}
use Rattle.lucid_equations.proofs.laws.freezing_is_the_subject_there.Goals as goal

pub returns-clause-values : goal.returns-clause-values
returns-clause-values z p e g m c t s = refl

pub returns-clause-visits : goal.returns-clause-visits
returns-clause-visits z p e b m d c t s = refl

pub returns-clause-needed : goal.returns-clause-needed
returns-clause-needed c = frozen-needs
