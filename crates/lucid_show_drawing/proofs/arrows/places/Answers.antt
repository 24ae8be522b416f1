use Rattle.lucid_show_drawing.specs.Orders.{place_in}
use Rattle.lucid_show_drawing.proofs.Places.{place_one}
use Rattle.lucid_show_drawing.proofs.arrows.places.Goals as goal

pub loop-number-preserved : goal.loop-number-preserved
loop-number-preserved c =
    place_one c.args.shown.now c.loop-number.number _ c.loop-number-test.true (place_in c.loop-number.places) (place_in c.insert.new.self)
    (λ q. c.in_ok-insert.ensures.updates.0 q) c.loop-number.invariant
