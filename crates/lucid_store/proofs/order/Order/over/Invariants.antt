use Rattle.std.proofs.Common.{◌≡◌}
use Rattle.lucid_store.specs.Touches.{IsOrderOf, up_to}
use Rattle.lucid_store.proofs.order.Order.over.Given as goal

abbrev pub invariant-loop-place : goal.invariant-loop-place
invariant-loop-place l = record {
  places : l.order.places ≡ up_to l.place;
  count : l.order.count ≡ l.place;
  order : IsOrderOf l.order.count l.order.places;
}
