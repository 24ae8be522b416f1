use Rattle.lucid_cert.proofs.Common.{refl, option_to_list, IsWaiting, judgments_of, table_in}
use Rattle.lucid_cert.proofs.Starting.{fewer_sound, innermost_has}
use Rattle.lucid_cert.proofs.maker.Maker.innermost.Goals as goal

pub returns-clause-leaves : goal.returns-clause-leaves
returns-clause-leaves c = record {
  sound = fewer_sound (table_in c.args.self.now) c.args.self.now.tags c.args.self.now.keys.keys (judgments_of c.args.self.now) c.args.self.now.waiting.items
      c.pop.new.self.items (option_to_list c.pop.result) c.pop.ensures.items
      c.requires;
  table = refl;
  known = refl;
  judgments = refl;
}

pub returns-clause-it : goal.returns-clause-it
returns-clause-it c =
    innermost_has (IsWaiting (table_in c.args.self.now) c.args.self.now.tags (judgments_of c.args.self.now)) c.args.self.now.waiting.items c.pop.new.self.items
    c.pop.result c.pop.ensures.items c.requires.waits
