use Rattle.lucid_equations.proofs.Moving.{six-move}
use Rattle.lucid_equations.proofs.laws.six_forms_only_move.Goals as goal

pub returns : goal.returns
returns c = six-move
