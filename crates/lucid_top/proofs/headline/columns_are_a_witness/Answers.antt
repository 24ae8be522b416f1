use Rattle.lucid_top.proofs.ColumnWitnesses.{columns-witness}
use Rattle.lucid_top.proofs.headline.columns_are_a_witness.Goals as goal

pub returns : goal.returns
returns c = columns-witness c.texts_are_longest.ensures c.text_is_read.ensures
