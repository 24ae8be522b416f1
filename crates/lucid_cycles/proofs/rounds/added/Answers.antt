use Rattle.std.proofs.lemmas.List.{get_or_default}
use Rattle.lucid_cycles.proofs.Raising.{added-more}
use Rattle.lucid_cycles.proofs.rounds.added.Goals as goal

pub loop-edge-preserved : goal.loop-edge-preserved
loop-edge-preserved c =
    added-more c.args.edges.now c.args.factor c.args.potentials.now c.loop-edge.add c.with_edge-add.result c.loop-edge.edge-index _ c.loop-edge-test.true
    (get_or_default c.args.edges.now c.loop-edge.edge-index _ _ c.loop-edge-test.true) c.loop-edge.invariant
    c.with_edge-add.ensures.kept c.with_edge-add.ensures.asked c.with_edge-add.ensures.least
