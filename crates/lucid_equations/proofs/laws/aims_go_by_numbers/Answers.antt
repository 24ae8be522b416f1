use Rattle.lucid_equations.proofs.NumbersRead.{nodes-by-numbers, datons-by-numbers, aims-lead}
use Rattle.lucid_equations.proofs.laws.aims_go_by_numbers.Goals as goal

pub returns-clause-nodes : goal.returns-clause-nodes
returns-clause-nodes z = nodes-by-numbers

pub returns-clause-datons : goal.returns-clause-datons
returns-clause-datons z = datons-by-numbers

pub returns-clause-lead : goal.returns-clause-lead
returns-clause-lead z = aims-lead
