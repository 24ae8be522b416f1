use Rattle.lucid_scope.proofs.Inputs.{free-leads}
use Rattle.lucid_scope.proofs.laws.free_names_are_inputs.Goals as goal

pub returns : goal.returns
returns c e inputs a at x k h q = free-leads e inputs a at x k h q
