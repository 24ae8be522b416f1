use Rattle.lucid_equations.proofs.Needs.{reference-value, element-value, nowhere-value, reference-visits, element-visits, reference-needs, reference-needs-all}
use Rattle.lucid_equations.proofs.laws.references_are_one_more.Goals as goal

pub returns-clause-values : goal.returns-clause-values
returns-clause-values z = reference-value

pub returns-clause-elements : goal.returns-clause-elements
returns-clause-elements z = element-value

pub returns-clause-visits : goal.returns-clause-visits
returns-clause-visits z = reference-visits

pub returns-clause-looked_up : goal.returns-clause-looked_up
returns-clause-looked_up z = element-visits

pub returns-clause-no_more : goal.returns-clause-no_more
returns-clause-no_more z = reference-needs

pub returns-clause-all : goal.returns-clause-all
returns-clause-all z = reference-needs-all

pub returns-clause-none : goal.returns-clause-none
returns-clause-none z = nowhere-value
