use Rattle.lucid_store.proofs.Common.{arith}
use Rattle.lucid_store.proofs.AgeLemmas.{all-there, dropped-view}
use Rattle.lucid_store.proofs.ages.Ages.drop_last.Goals as goal

pub returns-else-self-len : goal.returns-else-self-len
returns-else-self-len c =
    let all = all-there c.self.inside.written.items c.args.self.now c.self.inside.count c.self.view_is c.self.invariant.0 in
    dropped-view c.self.inside.written.items c.args.self.now c.self.inside.count c.self.view_is (omega arith) (omega (arith, all, c.requires))
