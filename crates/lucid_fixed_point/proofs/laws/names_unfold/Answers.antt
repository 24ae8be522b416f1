use Rattle.lucid_fixed_point.proofs.Unfolding.{names-unfold}
use Rattle.lucid_fixed_point.proofs.laws.names_unfold.Goals as goal

pub returns : goal.returns
returns c = names-unfold
