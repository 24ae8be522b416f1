use Rattle.lucid_fixed_point.proofs.Below.{means-has}
use Rattle.lucid_fixed_point.proofs.rule_laws.lies_in_each_closed_relation.Goals as goal

pub returns : goal.returns
returns g c b closed = means-has b g.R.Relates.has closed
