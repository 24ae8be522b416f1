use Rattle.lucid_top.proofs.CertificateWitnesses.{check-witness}
use Rattle.lucid_top.proofs.headline.check_is_a_witness.Goals as goal

pub returns : goal.returns
returns c = check-witness c.texts_are_longest.ensures
