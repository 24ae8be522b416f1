use Rattle.lucid_flat.proofs.SoundCommon.{subst, both_ways, NodeIsRight, AllRight, IsFirstWrong}
use Rattle.lucid_flat.proofs.RightRows.{right-more, right-all, first-wrong}
use Rattle.lucid_flat.proofs.nodes.first_wrong_node.Goals as goal

pub returns-then-not-is_node_right : goal.returns-then-not-is_node_right
returns-then-not-is_node_right c =
    let Right = NodeIsRight c.args.table.now in
    subst (λ rows. IsFirstWrong Right rows c.loop-id.id) c.items-rows.ensures.value
    (first-wrong Right c.items-rows.result.now c.loop-id.id _ c.loop-id-test.true c.loop-id.invariant
    (λ h. both_ways _ c.if-not-is_node_right.true (c.is_node_right.ensures.1 h)))

pub loop-id-preserved : goal.loop-id-preserved
loop-id-preserved c = right-more (NodeIsRight c.args.table.now) c.items-rows.result.now c.loop-id.id _ c.loop-id-test.true c.loop-id.invariant
    (c.is_node_right.ensures.0 c.if-not-is_node_right.false)

pub returns : goal.returns
returns c =
    let Right = NodeIsRight c.args.table.now in
    subst (λ rows. AllRight Right rows) c.items-rows.ensures.value
    (right-all Right c.items-rows.result.now c.loop-id.id c.loop-id-test.false c.loop-id.invariant)
