use Rattle.lucid_tree.proofs.Spaces.{val-spaceless}
use Rattle.lucid_tree.proofs.laws.spaceless_is_same_everywhere.Goals as goal

pub returns : goal.returns
returns c b m e env t s = val-spaceless b m e env t s 0
