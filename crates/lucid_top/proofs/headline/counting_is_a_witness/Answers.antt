use Rattle.lucid_top.proofs.Witnesses.{counting-witness}
use Rattle.lucid_top.proofs.headline.counting_is_a_witness.Goals as goal

pub returns : goal.returns
returns c = counting-witness c.texts_are_longest.ensures c.text_is_read.ensures
