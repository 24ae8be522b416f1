use Rattle.lucid_show_drawing.proofs.Common.{List, subst, ◌∙◌}
use Rattle.lucid_cert_rules.specs.declared.cell.Cell.{Cell}
use Rattle.lucid_show_outline.specs.Views.{View, view_of}
use Rattle.lucid_show_drawing.specs.Arrows.{GoTo, cells_of}
use Rattle.lucid_show_drawing.specs.Orders.{arrows_by, place_in}
use Rattle.lucid_show_drawing.proofs.Places.{arrows_all, arrows_one, goes}
use Rattle.lucid_show_drawing.proofs.arrows.arrows.Goals as goal

pub loop-from-preserved : goal.loop-from-preserved
loop-from-preserved c =
    let v : View = view_of c.args.source.now in
    arrows_one v c.args.shown.now c.loop-from.from _ c.loop-from-test.true
    (arrows_by (place_in c.in_ok-places.places) c.loop-from.from c.as_slice.result.now) c.loop-from.arrows.items c.add_arrows.new.arrows.items
    (subst
    (λ (cs : List Cell). GoTo (cells_of c.args.shown.now) c.loop-from.from cs
    (arrows_by (place_in c.in_ok-places.places) c.loop-from.from c.as_slice.result.now)) (c.as_slice.ensures.keys ∙ c.in_ok-looked.ensures)
    (goes (cells_of c.args.shown.now) (place_in c.in_ok-places.places) c.in_ok-places.ensures c.loop-from.from c.as_slice.result.now))
    c.in_ok-add_arrows.ensures c.loop-from.invariant

pub returns : goal.returns
returns c = arrows_all (view_of c.args.source.now) c.args.shown.now c.loop-from.from c.loop-from-test.false c.loop-from.arrows.items c.loop-from.invariant
