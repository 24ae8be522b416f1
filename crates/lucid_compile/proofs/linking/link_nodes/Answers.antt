use Rattle.lucid_compile.proofs.Common.{◌<◌, length, get_or, arith, NodeRow, Const, linked_row, numbered}
use Rattle.lucid_compile.proofs.LinkedRows.{over-more}
use Rattle.lucid_compile.proofs.linking.link_nodes.Goals as goal

pub loop-row-preserved : goal.loop-row-preserved
loop-row-preserved c =
    let none : NodeRow = record { scope = 0; node = Const 0 } in
    let row : NodeRow = get_or c.loop-row.nodes c.loop-row.row-index none in
    let within : c.loop-row.row-index < length c.args.nodes.now = omega arith in
    over-more (linked_row (numbered c.args.source.now)) c.args.nodes.now c.loop-row.nodes c.loop-row.row-index
    (record { scope = row.scope; node = c.in_ok-row.field-0 }) none c.loop-row.invariant within
    (λ j. record { scope = row.scope; node = c.in_ok-row.ensures j })
