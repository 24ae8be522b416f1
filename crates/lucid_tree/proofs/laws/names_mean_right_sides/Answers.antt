use Rattle.lucid_tree.proofs.References.{plain_name, called_function, parameter, current_name, free_name}
use Rattle.lucid_tree.proofs.laws.names_mean_right_sides.Goals as goal

pub returns-clause-plain_names : goal.returns-clause-plain_names
returns-clause-plain_names c = plain_name

pub returns-clause-calls : goal.returns-clause-calls
returns-clause-calls c = called_function

pub returns-clause-parameters : goal.returns-clause-parameters
returns-clause-parameters c = parameter

pub returns-clause-current_names : goal.returns-clause-current_names
returns-clause-current_names c = current_name

pub returns-clause-free_names : goal.returns-clause-free_names
returns-clause-free_names c = free_name
