use Rattle.lucid_store.proofs.OrderedViews.{order_is_of_held}
use Rattle.lucid_store.proofs.warehouse.Warehouse.len.Goals as goal

pub returns-clause-order : goal.returns-clause-order
returns-clause-order c = rw (← c.self.view_is) (order_is_of_held c.self.inside.datons c.self.inside.lost c.self.inside.touched c.self.inside.order
    c.len.ensures.one_for_each c.self.invariant.1)
