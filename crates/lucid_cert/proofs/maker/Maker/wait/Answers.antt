use Rattle.lucid_cert.proofs.Common.{refl, table_in}
use Rattle.lucid_cert.proofs.Going.{goes_waiting}
use Rattle.lucid_cert.proofs.StayingWanted.{one_more_waits}
use Rattle.lucid_cert.proofs.maker.Maker.wait.Goals as goal

pub returns-clause-goes : goal.returns-clause-goes
returns-clause-goes c = goes_waiting c.args.self.now _ refl refl refl refl c.args.making c.in_ok-push.ensures.items c.requires.sound c.requires.waiting

pub returns-clause-wanted : goal.returns-clause-wanted
returns-clause-wanted c b root may all =
    one_more_waits (table_in c.args.self.now) b root c.args.self.now.tags c.args.self.now.waiting.items c.push.new.self.items c.args.making
    c.in_ok-push.ensures.items may all
