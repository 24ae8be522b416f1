use Rattle.lucid_store.proofs.AgeLemmas.{added-view}
use Rattle.lucid_store.proofs.ages.Ages.add.Goals as goal

pub returns-clause-items : goal.returns-clause-items
returns-clause-items c = added-view c.self.inside.written.items c.make_room.new.written.items c.args.self.now c.self.inside.count c.self.view_is
    c.make_room.ensures.items c.self.invariant.0
