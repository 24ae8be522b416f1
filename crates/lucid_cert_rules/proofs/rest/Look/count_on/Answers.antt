use Rattle.lucid_cert_rules.proofs.FollowingCommon.{arith}
use Rattle.lucid_cert_rules.proofs.rest.Look.count_on.Goals as goal

pub returns-then-self-until-clause-inside : goal.returns-then-self-until-clause-inside
returns-then-self-until-clause-inside c n h s = c.give.ensures.inside n (omega (arith, h)) (omega (arith, c.requires.below, c.requires.few, c.requires.until)) s
