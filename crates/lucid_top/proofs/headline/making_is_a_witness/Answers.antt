use Rattle.lucid_top.proofs.CertificateWitnesses.{making-witness}
use Rattle.lucid_top.proofs.headline.making_is_a_witness.Goals as goal

pub returns : goal.returns
returns c = making-witness c.texts_are_longest.ensures
