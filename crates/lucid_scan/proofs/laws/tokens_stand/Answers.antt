use Rattle.lucid_scan.proofs.Common.{refl}
use Rattle.lucid_scan.proofs.Spans.{stand}
use Rattle.lucid_scan.proofs.laws.tokens_stand.Goals as goal

pub returns : goal.returns
returns c source ts h = stand h source refl
