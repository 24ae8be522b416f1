use Rattle.lucid_fixed_point.proofs.Programs.{the-function-takes-turns}
use Rattle.lucid_fixed_point.proofs.laws.the_function_takes_turns.Goals as goal

pub returns : goal.returns
returns c = the-function-takes-turns
