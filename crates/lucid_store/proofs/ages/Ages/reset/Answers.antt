use Rattle.lucid_store.proofs.Common.{sym, arith}
use Rattle.lucid_store.proofs.AgeLemmas.{all-there, zero-there, set-view, set-zero}
use Rattle.lucid_store.proofs.ages.Ages.reset.Goals as goal

pub returns-then-index-len : goal.returns-then-index-len
returns-then-index-len c = set-view c.self.inside.written.items c.write_zero.new.written.items c.args.self.now c.self.inside.count c.args.index 0 c.self.view_is
    (omega arith) c.write_zero.ensures.items

pub returns-else-index-len : goal.returns-else-index-len
returns-else-index-len c =
    let all = all-there c.self.inside.written.items c.args.self.now c.self.inside.count c.self.view_is c.self.invariant.0 in
    sym
    (set-zero c.args.self.now c.args.index (zero-there c.self.inside.written.items c.args.self.now c.self.inside.count c.args.index c.self.view_is
    c.self.invariant.0 (omega arith) (omega (arith, all, c.requires))))
