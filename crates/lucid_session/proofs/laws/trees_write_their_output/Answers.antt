use Rattle.lucid_session.proofs.Alike.{output_of_trees}
use Rattle.lucid_session.proofs.laws.trees_write_their_output.Goals as goal

pub returns : goal.returns
returns c = output_of_trees
