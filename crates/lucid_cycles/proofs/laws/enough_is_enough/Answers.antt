use Rattle.lucid_cycles.proofs.Depth.{enough-defined}
use Rattle.lucid_cycles.proofs.laws.enough_is_enough.Goals as goal

pub returns : goal.returns
returns c = enough-defined c.names_go_where_they_belong.ensures.names
