use Rattle.lucid_scan.proofs.Pieces.{text_no_gap}
use Rattle.lucid_scan.proofs.laws.texts_begin_no_gap.Goals as goal

pub returns : goal.returns
returns c = text_no_gap
