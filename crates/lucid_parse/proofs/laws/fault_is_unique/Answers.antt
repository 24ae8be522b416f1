use Rattle.lucid_parse.proofs.Exact.{fault_one}
use Rattle.lucid_parse.proofs.laws.fault_is_unique.Goals as goal

pub returns : goal.returns
returns c = λ ws end at other f g. fault_one ws end at other f g
