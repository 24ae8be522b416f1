use Rattle.lucid_scan.proofs.Once.{one_scan}
use Rattle.lucid_scan.proofs.laws.tokens_are_unique.Goals as goal

pub returns : goal.returns
returns c source ts us h g = one_scan h us g
