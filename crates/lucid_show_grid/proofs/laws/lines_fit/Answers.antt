use Rattle.lucid_show_grid.proofs.Columns.{lines_fit}
use Rattle.lucid_show_grid.proofs.laws.lines_fit.Goals as goal

pub returns : goal.returns
returns c = lines_fit
