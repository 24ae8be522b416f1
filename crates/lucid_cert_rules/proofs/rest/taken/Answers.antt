use Rattle.lucid_cert_rules.proofs.rest.taken.Goals as goal

pub returns-in-Give-clause-inside : goal.returns-in-Give-clause-inside
returns-in-Give-clause-inside c n h = c.settled.ensures.inside n
