use Rattle.lucid_tree.proofs.Undone.{initial-sby, succ-sby}
use Rattle.lucid_tree.proofs.laws.initial_and_succ_undo_sby.Goals as goal

pub returns-clause-initial : goal.returns-clause-initial
returns-clause-initial c b m x y env i j k t s = initial-sby b env m i j k t s x y

pub returns-clause-succ : goal.returns-clause-succ
returns-clause-succ c b m x y env i j t s = succ-sby b env m i j t s x y
