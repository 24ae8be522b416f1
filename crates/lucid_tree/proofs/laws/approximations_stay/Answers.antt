use Rattle.lucid_tree.proofs.Growth.{val-up, meant-once}
use Rattle.lucid_tree.proofs.Outputs.{output-once}
use Rattle.lucid_tree.proofs.laws.approximations_stay.Goals as goal

pub returns-clause-stay : goal.returns-clause-stay
returns-clause-stay c = val-up

pub returns-clause-one_value : goal.returns-clause-one_value
returns-clause-one_value c = meant-once

pub returns-clause-one_output : goal.returns-clause-one_output
returns-clause-one_output c = output-once
