use Rattle.lucid_scope.proofs.OneList.{one_list}
use Rattle.lucid_scope.proofs.laws.inputs_are_unique.Goals as goal

pub returns : goal.returns
returns c e a b w x y = one_list e a b w x y
