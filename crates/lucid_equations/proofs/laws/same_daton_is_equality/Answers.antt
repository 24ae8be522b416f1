use Rattle.lucid_equations.proofs.SameDatons.{same-daton}
use Rattle.lucid_equations.proofs.laws.same_daton_is_equality.Goals as goal

pub returns : goal.returns
returns z = same-daton
