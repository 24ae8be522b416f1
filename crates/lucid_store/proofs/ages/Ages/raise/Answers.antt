use Rattle.lucid_store.proofs.Common.{arith}
use Rattle.lucid_store.proofs.AgeLemmas.{raised-length, raised-view}
use Rattle.lucid_store.proofs.ages.Ages.raise.Goals as goal

pub invariant_of-self : goal.invariant_of-self
invariant_of-self c =
    let all = raised-length c.self.inside.written.items c.fill.new.written.items c.raise_written.new.written.items _ c.self.inside.count c.self.view_is
    c.self.invariant.0 c.fill.ensures.items c.raise_written.ensures.items in
    let filled = c.fill.ensures.room in
    let raised = c.raise_written.ensures.room in
    (omega (arith, all), omega (arith, filled, raised, c.self.invariant.1))

pub returns : goal.returns
returns c = raised-view c.self.inside.written.items c.fill.new.written.items c.raise_written.new.written.items _ c.self.inside.count c.self.view_is
    c.self.invariant.0 c.fill.ensures.items c.raise_written.ensures.items
