use Rattle.lucid_tree.proofs.Undone.{first-fby, next-fby}
use Rattle.lucid_tree.proofs.laws.first_and_next_undo_fby.Goals as goal

pub returns-clause-first : goal.returns-clause-first
returns-clause-first c b m x y env i j k t s = first-fby b env m i j k t s x y

pub returns-clause-next : goal.returns-clause-next
returns-clause-next c b m x y env i j t s = next-fby b env m i j t s x y
