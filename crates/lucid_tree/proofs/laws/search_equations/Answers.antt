use Rattle.lucid_tree.proofs.SearchEquations.{whenever-equation, upon-equation}
use Rattle.lucid_tree.proofs.laws.search_equations.Goals as goal

pub returns-clause-whenever : goal.returns-clause-whenever
returns-clause-whenever c = whenever-equation

pub returns-clause-upon : goal.returns-clause-upon
returns-clause-upon c = upon-equation
