use Rattle.lucid_cert.proofs.RightOnes.{right_is_not_wrong}
use Rattle.lucid_cert.proofs.check_laws.right_is_not_wrong.Goals as goal

pub returns : goal.returns
returns c = right_is_not_wrong
