use Rattle.std.proofs.Common.{sym, subst, ◌∙◌}
use Rattle.lucid_store.specs.Touches.{IsOrderOf}
use Rattle.lucid_store.proofs.PlaceLemmas.{touched_next}
use Rattle.lucid_store.proofs.order.Order.over.Goals as goal

pub loop-place-preserved : goal.loop-place-preserved
loop-place-preserved c =
    let count = c.in_ok-reserve.ensures.count in
    let places = c.in_ok-reserve.ensures.places in
    let order : IsOrderOf c.reserve.new.self.count c.reserve.new.self.places =
    subst (λ n. IsOrderOf n c.reserve.new.self.places) (sym count) (subst (λ ps. IsOrderOf c.loop-place.order.count ps) (sym places) c.loop-place.invariant.order) in
    let next = touched_next c.reserve.new.self c.touch.new.self c.loop-place.place (count ∙ c.loop-place.invariant.count)
    (places ∙ c.loop-place.invariant.places) order c.touch.ensures.touched in
    record {
      places = next.0;
      count = next.1;
      order = c.touch.ensures.order;
    }
