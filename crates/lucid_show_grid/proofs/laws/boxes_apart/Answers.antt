use Rattle.lucid_show_grid.proofs.Apart.{boxes_apart}
use Rattle.lucid_show_grid.proofs.laws.boxes_apart.Goals as goal

pub returns : goal.returns
returns c = boxes_apart
