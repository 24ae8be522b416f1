use Rattle.lucid_cert_rules.proofs.rest.count_below.Goals as goal

pub returns-then-until-eq0-clause-stands : goal.returns-then-until-eq0-clause-stands
returns-then-until-eq0-clause-stands c = c.give.ensures.stands 0
