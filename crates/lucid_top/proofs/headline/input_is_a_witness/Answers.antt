use Rattle.lucid_top.proofs.InputWitnesses.{input-witness}
use Rattle.lucid_top.proofs.headline.input_is_a_witness.Goals as goal

pub returns : goal.returns
returns c = input-witness c.texts_are_longest.ensures
