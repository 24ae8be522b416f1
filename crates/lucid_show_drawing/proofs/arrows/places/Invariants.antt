use Rattle.lucid_show_drawing.specs.Arrows.{cells_of}
use Rattle.lucid_show_drawing.specs.Orders.{PlacesSoFar, place_in}
use Rattle.lucid_show_drawing.proofs.arrows.places.Given as goal

abbrev pub invariant-loop-number : goal.invariant-loop-number
invariant-loop-number l = PlacesSoFar (cells_of l.shown) l.number (place_in l.places)
