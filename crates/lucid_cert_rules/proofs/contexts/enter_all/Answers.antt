use Rattle.lucid_cert_rules.proofs.FollowingCommon.{length, table_of}
use Rattle.lucid_cert_rules.proofs.ContextTags.{pushed}
use Rattle.lucid_cert_rules.proofs.contexts.enter_all.Goals as goal

pub loop-row-preserved : goal.loop-row-preserved
loop-row-preserved c =
    let h = pushed (length (table_of c.args.program.now).places) c.places-places.result c.places-places.ensures c.loop-row.tags c.enter.new.tags
    c.loop-row.contexts.items c.as_slice.result.now c.push-in-loop-row.new.self.items c.in_ok-context.context c.args.rows.now c.loop-row.row-index _
    c.loop-row-test.true
    c.as_slice.ensures.value c.loop-row.invariant.1.0 c.loop-row.invariant.0 c.in_ok-context.ensures.keeps c.in_ok-context.ensures.there
    c.in_ok-context.ensures.context c.in_ok-push-2.ensures.items in
    (h.0, (h.1, c.in_ok-context.ensures.once c.loop-row.invariant.1.1))
