use Rattle.lucid_compile.proofs.Common.{◌<◌, length, get_or, arith, PlaceRow, linked_place, numbered}
use Rattle.lucid_compile.proofs.LinkedRows.{over-more}
use Rattle.lucid_compile.proofs.linking.link_places.Goals as goal

pub loop-row-preserved : goal.loop-row-preserved
loop-row-preserved c =
    let row : PlaceRow = get_or c.loop-row.places c.loop-row.row-index c.row-item.result in
    let within : c.loop-row.row-index < length c.args.places.now = omega arith in
    over-more (linked_place (numbered c.args.source.now)) c.args.places.now c.loop-row.places c.loop-row.row-index
    (record { scope = row.scope; name = c.name.result.number; actuals = row.actuals }) c.row-item.result c.loop-row.invariant within
    (λ j. record { scope = row.scope; name = (c.name.ensures j).number; actuals = row.actuals })
