use Rattle.lucid_tree.proofs.Undone.{asa-whenever}
use Rattle.lucid_tree.proofs.laws.asa_is_first_of_whenever.Goals as goal

pub returns : goal.returns
returns c b m x p env i j k t s = asa-whenever b env m i j k t s x p
