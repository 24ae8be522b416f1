use Rattle.lucid_fixed_point.proofs.Contexts.{derivations-exchanged}
use Rattle.lucid_fixed_point.proofs.laws.the_same_may_be_exchanged.Goals as goal

pub returns : goal.returns
returns g c = derivations-exchanged g.S.Same.left g.S.Same.right g.S.Same.same
