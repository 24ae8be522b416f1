use Rattle.lucid_show_drawing.proofs.Looks.{looks_drawn}
use Rattle.lucid_show_drawing.proofs.laws.arrows_are_looks.Goals as goal

pub returns : goal.returns
returns c = looks_drawn
