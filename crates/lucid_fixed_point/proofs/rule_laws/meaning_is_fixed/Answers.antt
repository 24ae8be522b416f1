use Rattle.lucid_fixed_point.proofs.Fixed.{meaning-is-fixed}
use Rattle.lucid_fixed_point.proofs.rule_laws.meaning_is_fixed.Goals as goal

pub returns : goal.returns
returns c = meaning-is-fixed
