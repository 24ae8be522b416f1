use Rattle.lucid_tree.proofs.Ways.{leads-runs}
use Rattle.lucid_tree.proofs.laws.rests_keep_the_value.Goals as goal

pub returns : goal.returns
returns c = leads-runs
