use Rattle.lucid_cert_rules.proofs.OneText.{one_why}
use Rattle.lucid_cert_rules.proofs.laws.one_why.Goals as goal

pub returns : goal.returns
returns c = one_why c.one_value.ensures
