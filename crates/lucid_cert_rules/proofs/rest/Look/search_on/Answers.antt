use Rattle.lucid_cert_rules.proofs.Alike.{find_next}
use Rattle.lucid_cert_rules.proofs.rest.Look.search_on.Goals as goal

pub returns-clause-plan : goal.returns-clause-plan
returns-clause-plan c m most vs h = find_next m most vs c.args.self.time c.args.wanted c.args.self.space h
