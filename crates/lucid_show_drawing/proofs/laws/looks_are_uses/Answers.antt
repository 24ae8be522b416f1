use Rattle.lucid_show_drawing.proofs.Seen.{looks_used}
use Rattle.lucid_show_drawing.proofs.laws.looks_are_uses.Goals as goal

pub returns : goal.returns
returns c = looks_used
