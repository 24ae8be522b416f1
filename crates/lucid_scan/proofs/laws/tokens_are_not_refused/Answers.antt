use Rattle.lucid_scan.proofs.Refused.{not_refused}
use Rattle.lucid_scan.proofs.laws.tokens_are_not_refused.Goals as goal

pub returns : goal.returns
returns c = not_refused
