use Rattle.lucid_fixed_point.proofs.Loops.{loop-means-nothing}
use Rattle.lucid_fixed_point.proofs.rule_laws.loops_mean_nothing.Goals as goal

pub returns : goal.returns
returns c = loop-means-nothing
