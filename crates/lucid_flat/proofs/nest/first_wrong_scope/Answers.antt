use Rattle.lucid_flat.proofs.SoundCommon.{ScopeIsRight}
use Rattle.lucid_flat.proofs.RightRows.{right-more, right-all, first-wrong}
use Rattle.lucid_flat.proofs.nest.first_wrong_scope.Goals as goal

pub returns-then-not-is_scope_right : goal.returns-then-not-is_scope_right
returns-then-not-is_scope_right c = first-wrong ScopeIsRight c.args.rows.now c.loop-id.id _ c.loop-id-test.true c.loop-id.invariant
    (λ h. let t = c.is_scope_right.ensures.1 h in cc)

pub loop-id-preserved : goal.loop-id-preserved
loop-id-preserved c = right-more ScopeIsRight c.args.rows.now c.loop-id.id _ c.loop-id-test.true c.loop-id.invariant
    (c.is_scope_right.ensures.0 c.if-not-is_scope_right.false)

pub returns : goal.returns
returns c = right-all ScopeIsRight c.args.rows.now c.loop-id.id c.loop-id-test.false c.loop-id.invariant
