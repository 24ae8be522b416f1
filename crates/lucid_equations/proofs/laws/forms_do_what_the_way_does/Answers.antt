use Rattle.lucid_equations.proofs.ByStep.{next-visited, next-visited_on, need-on_the_way}
use Rattle.lucid_equations.proofs.laws.forms_do_what_the_way_does.Goals as goal

pub returns-clause-next : goal.returns-clause-next
returns-clause-next z = λ p b m d f es c t s. next-visited p b m f es c t s d

pub returns-clause-from_some_on : goal.returns-clause-from_some_on
returns-clause-from_some_on z = next-visited_on

pub returns-clause-needs : goal.returns-clause-needs
returns-clause-needs z = need-on_the_way
