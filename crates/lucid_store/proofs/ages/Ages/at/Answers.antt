use Rattle.lucid_store.proofs.Common.{arith}
use Rattle.lucid_store.proofs.AgeLemmas.{all-there, zero-there}
use Rattle.lucid_store.proofs.ages.Ages.at.Goals as goal

pub returns-else-index-len : goal.returns-else-index-len
returns-else-index-len c =
    let all = all-there c.self.inside.written.items c.args.self.now c.self.inside.count c.self.view_is c.self.invariant.0 in
    zero-there c.self.inside.written.items c.args.self.now c.self.inside.count c.args.index c.self.view_is c.self.invariant.0 (omega arith)
    (omega (arith, all, c.requires))
