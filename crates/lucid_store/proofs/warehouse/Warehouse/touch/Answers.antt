use Rattle.lucid_store.proofs.Common.{sym}
use Rattle.lucid_store.proofs.OrderedViews.{touch_known}
use Rattle.lucid_store.proofs.warehouse.Warehouse.touch.Goals as goal

pub invariant_of-self : goal.invariant_of-self
invariant_of-self c = rw c.in_err-index.ensures.kept c.self.invariant

pub returns-clause-after : goal.returns-clause-after
returns-clause-after c = rw (← c.self.view_is) (touch_known c.self.inside.datons c.renew.new.self c.self.inside.lost c.self.inside.touched c.self.inside.order
    c.touch_in.new.order c.args.key c.in_ok-index.index (sym c.in_ok-index.ensures.place) c.in_ok-index.ensures.one_for_each c.in_ok-index.ensures.keys
    c.in_ok-index.ensures.count c.in_ok-index.ensures.entries (sym c.in_ok-index.ensures.found) c.touch_in.ensures.touched)
