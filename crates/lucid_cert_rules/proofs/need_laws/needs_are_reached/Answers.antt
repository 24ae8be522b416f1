use Rattle.lucid_cert_rules.proofs.Reaching.{found_reached, reached}
use Rattle.lucid_cert_rules.proofs.need_laws.needs_are_reached.Goals as goal

pub returns : goal.returns
returns c = λ T js i found needs. (reached T js i found needs, found_reached T js i found needs)
