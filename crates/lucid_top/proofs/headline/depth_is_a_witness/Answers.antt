use Rattle.lucid_top.proofs.Witnesses.{depth-witness}
use Rattle.lucid_top.proofs.headline.depth_is_a_witness.Goals as goal

pub returns : goal.returns
returns c = depth-witness c.texts_are_longest.ensures c.text_is_read.ensures
