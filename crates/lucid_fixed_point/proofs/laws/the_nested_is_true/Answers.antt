use Rattle.lucid_fixed_point.proofs.Programs.{nested-is-true}
use Rattle.lucid_fixed_point.proofs.laws.the_nested_is_true.Goals as goal

pub returns : goal.returns
returns c = nested-is-true
