use Rattle.lucid_show_drawing.proofs.Demanded.{demanded_shown}
use Rattle.lucid_show_drawing.proofs.laws.what_is_demanded_is_shown.Goals as goal

pub returns : goal.returns
returns c = demanded_shown c.needs_are_reached.ensures
