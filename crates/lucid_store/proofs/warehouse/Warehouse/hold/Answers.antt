use Rattle.lucid_store.proofs.Common.{◌≡◌, refl, subst}
use Rattle.lucid_store.specs.Stored.{Stored}
use Rattle.lucid_store.specs.Entries.{fresh, order_touched}
use Rattle.lucid_store.specs.Ordered.{ordered_keys}
use Rattle.lucid_store.proofs.OrderedViews.{may_touch_put, put_order, put_entries, put_held}
use Rattle.lucid_store.proofs.warehouse.Warehouse.hold.Goals as goal

pub touch_in-requires : goal.touch_in-requires
touch_in-requires c = may_touch_put c.self.inside.datons c.put.new.self c.args.key c.in_ok-index.index c.self.inside.order c.may_hold.new.order c.self.invariant.1
    c.may_hold.ensures.same c.in_ok-index.ensures.place (c.if-not-may_hold.ensures.may refl)

pub invariant_of-self-2 : goal.invariant_of-self-2
invariant_of-self-2 c = (
  put_held c.self.inside.datons c.put.new.self c.args.key (fresh c.args.value) c.in_ok-index.ensures.entries,
  put_entries c.self.inside.datons c.put.new.self c.args.key c.in_ok-index.index c.self.inside.order c.may_hold.new.order c.self.invariant.1
      c.may_hold.ensures.same c.in_ok-index.ensures.place c.touch_in.new.order c.in_ok-index.ensures.count c.touch_in.ensures.touched c.touch_in.ensures.order,
)

pub returns-clause-order : goal.returns-clause-order
returns-clause-order c =
    subst (λ (w : Stored). ordered_keys c.put.new.self c.touch_in.new.order ≡ order_touched c.args.key w.order) c.self.view_is
    (put_order c.self.inside.datons c.put.new.self c.args.key c.in_ok-index.index c.self.inside.order c.may_hold.new.order c.self.invariant.1
    c.may_hold.ensures.same c.in_ok-index.ensures.place c.touch_in.new.order c.in_ok-index.ensures.one_for_each c.in_ok-index.ensures.keys c.touch_in.ensures.touched)
