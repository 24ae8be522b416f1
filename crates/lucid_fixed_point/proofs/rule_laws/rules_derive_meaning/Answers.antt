use Rattle.lucid_fixed_point.proofs.Rules.{means-derives, derives-means}
use Rattle.lucid_fixed_point.proofs.rule_laws.rules_derive_meaning.Goals as goal

pub returns : goal.returns
returns c b e env t s v = (means-derives b e env t s v, derives-means b e env t s v)
