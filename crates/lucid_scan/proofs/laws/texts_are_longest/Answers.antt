use Rattle.lucid_scan.proofs.Common.{◌++◌}
use Rattle.lucid_scan.proofs.Pieces.{text_longest}
use Rattle.lucid_scan.proofs.laws.texts_are_longest.Goals as goal

pub returns : goal.returns
returns c k text after h stop = text_longest text after (c.one_list_front.ensures (text ++ after)) k h stop
