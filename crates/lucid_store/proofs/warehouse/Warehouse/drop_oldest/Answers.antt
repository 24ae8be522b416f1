use Rattle.lucid_store.proofs.Common.{List, IfSome, subst}
use Rattle.std.proofs.Common.{inr}
use Rattle.lucid_tags.specs.declared.Key.{Key}
use Rattle.lucid_store.specs.Stored.{Stored}
use Rattle.lucid_store.specs.Entries.{IsTouchedFirst}
use Rattle.lucid_store.specs.Ordered.{IsOrderOfEntries, IsFirstPlace}
use Rattle.lucid_store.proofs.TouchedLemmas.{touched_without}
use Rattle.lucid_store.proofs.OrderedViews.{drops_first, none_first}
use Rattle.lucid_store.proofs.warehouse.Warehouse.drop_oldest.Goals as goal

pub returns-in_default : goal.returns-in_default
returns-in_default c = inr (
  subst (λ (w : Stored). (key : Key) (keys : List Key) → ¬ IsTouchedFirst w key keys) c.self.view_is
      (none_first c.self.inside.datons c.self.inside.lost c.self.inside.touched c.self.inside.order c.self.invariant.1 c.len-held.ensures.one_for_each
      c.in_default.ensures.none),
  c.clear.ensures,
)

pub invariant_of-self-2 : goal.invariant_of-self-2
invariant_of-self-2 c = rw c.without-self-inside.ensures (
  touched_without c.self.inside.datons c.remove_first-key.new.datons c.remove_first-key.result c.self.inside.touched c.remove_first-key.ensures.entries
      c.self.invariant.0,
  c.remove_first-key.ensures.order,
)

pub returns : goal.returns
returns c =
    let held = subst (λ o. IfSome o (IsOrderOfEntries c.self.inside.datons)) c.in-Some-order.is c.self.invariant.1 in
    let first = subst (λ o. IfSome o (IsFirstPlace c.in-Some.place)) c.in-Some-order.is c.in-Some.ensures.first in
    rw (← c.self.view_is) (drops_first c.self.inside.datons c.remove_first-key.new.datons c.self.inside.lost c.self.inside.touched
    c.without-self-inside.result c.self.inside.order c.in-Some-order.order c.remove_first-key.new.order c.in-Some.place c.remove_first-key.result
    c.in-Some-order.is held first c.remove_first-key.ensures.entries c.remove_first-key.ensures.count c.remove_first-key.ensures.keys
    c.without-self-inside.ensures)
