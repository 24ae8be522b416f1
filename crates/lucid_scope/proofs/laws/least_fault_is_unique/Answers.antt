use Rattle.lucid_scope.proofs.Unique.{one_fault, no_fault}
use Rattle.lucid_scope.proofs.laws.least_fault_is_unique.Goals as goal

pub returns-clause-unique : goal.returns-clause-unique
returns-clause-unique c e f g w a b = one_fault e f g w a b

pub returns-clause-excluded : goal.returns-clause-excluded
returns-clause-excluded c e f none h = no_fault e f none h
