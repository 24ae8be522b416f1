use Rattle.lucid_show_grid.proofs.Stand.{values_stand}
use Rattle.lucid_show_grid.proofs.laws.values_stand.Goals as goal

pub returns : goal.returns
returns c = values_stand
