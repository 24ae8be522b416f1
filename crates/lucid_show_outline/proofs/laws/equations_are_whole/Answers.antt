use Rattle.lucid_show_outline.proofs.Whole.{equations_whole}
use Rattle.lucid_show_outline.proofs.laws.equations_are_whole.Goals as goal

pub returns : goal.returns
returns c = equations_whole
