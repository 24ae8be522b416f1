use Rattle.lucid_test_programs.proofs.Common.{◌≡◌, sym, ◌∙◌, ap, definition, absent, found_in}
use Rattle.lucid_test_programs.proofs.Finds.{passed, met, none_left}
use Rattle.lucid_test_programs.proofs.env.first.Goals as goal

pub loop-d-preserved : goal.loop-d-preserved
loop-d-preserved c =
    sym (passed c.args.name.now c.items-d-items.result.now c.loop-d.d-index c.d-item.result c.loop-d-test.true c.d-item.is
    (sym c.same.ensures ∙ c.if-same.false)) ∙ c.loop-d.invariant

pub returns-then-same : goal.returns-then-same
returns-then-same c =
    let e : found_in c.d-item.result.at c.d-item.result.kind ≡ definition c.args.name.now c.args.defs.now =
    sym (met c.args.name.now c.items-d-items.result.now c.loop-d.d-index c.d-item.result c.loop-d-test.true c.d-item.is (sym c.same.ensures ∙ c.if-same.true))
    ∙ c.loop-d.invariant ∙ ap (definition c.args.name.now) c.items-d-items.ensures in e

pub returns : goal.returns
returns c =
    let e : absent ≡ definition c.args.name.now c.args.defs.now =
    sym (none_left c.args.name.now c.items-d-items.result.now c.loop-d.d-index c.loop-d-test.false) ∙ c.loop-d.invariant
    ∙ ap (definition c.args.name.now) c.items-d-items.ensures in e
