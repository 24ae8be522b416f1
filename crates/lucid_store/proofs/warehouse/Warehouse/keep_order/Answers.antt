use Rattle.lucid_store.proofs.OrderedViews.{kept_or_not, begun_entries}
use Rattle.lucid_store.proofs.warehouse.Warehouse.keep_order.Goals as goal

pub invariant_of-self : goal.invariant_of-self
invariant_of-self c = (c.self.invariant.0, begun_entries c.self.inside.datons c.len.result c.order_over.result c.len.ensures.count c.order_over.ensures)

pub returns : goal.returns
returns c = rw (← c.self.view_is) (kept_or_not c.self.inside.datons c.self.inside.lost c.self.inside.touched c.len.result c.order_over.result
    c.self.inside.order c.len.ensures.count c.order_over.ensures)
