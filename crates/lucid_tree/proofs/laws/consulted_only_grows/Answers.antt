use Rattle.lucid_tree.proofs.Common.{add-one}
use Rattle.lucid_tree.proofs.Walks.{consults-up, consults-wider}
use Rattle.lucid_tree.proofs.laws.consulted_only_grows.Goals as goal

pub returns-clause-with_limit : goal.returns-clause-with_limit
returns-clause-with_limit c b m d e env t s = rw (add-one m) (consults-up b m d e env t s)

pub returns-clause-with_added : goal.returns-clause-with_added
returns-clause-with_added c b m d e env t s = rw (add-one d) (consults-wider b m d e env t s)
