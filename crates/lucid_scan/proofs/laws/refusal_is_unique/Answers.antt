use Rattle.lucid_scan.proofs.Refused.{one_refusal}
use Rattle.lucid_scan.proofs.laws.refusal_is_unique.Goals as goal

pub returns : goal.returns
returns c = one_refusal
