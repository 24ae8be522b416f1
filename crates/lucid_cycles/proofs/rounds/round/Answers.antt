use Rattle.lucid_cycles.proofs.Common.{take_all}
use Rattle.std.proofs.lemmas.List.{get_or_default}
use Rattle.lucid_cycles.proofs.Raising.{rounding-more, rounding-end}
use Rattle.lucid_cycles.proofs.rounds.round.Goals as goal

pub loop-edge-preserved : goal.loop-edge-preserved
loop-edge-preserved c =
    rounding-more c.args.edges.now c.args.factor c.args.before.now c.loop-edge.after.items c.raise.new.after.items c.loop-edge.edge-index _
    c.loop-edge-test.true
    (get_or_default c.args.edges.now c.loop-edge.edge-index _ _ c.loop-edge-test.true) c.loop-edge.invariant c.raise.ensures

pub returns : goal.returns
returns c =
    rounding-end c.args.edges.now c.args.factor c.args.before.now c.loop-edge.after.items c.loop-edge.edge-index
    (take_all c.loop-edge.edge-index c.args.edges.now c.loop-edge-test.false) c.loop-edge.invariant
