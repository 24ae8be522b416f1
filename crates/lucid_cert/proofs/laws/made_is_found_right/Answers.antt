use Rattle.lucid_cert.proofs.FoundRight.{made_is_found_right}
use Rattle.lucid_cert.proofs.laws.made_is_found_right.Goals as goal

pub returns : goal.returns
returns c = made_is_found_right c.keeps_within.ensures
