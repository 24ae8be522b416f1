use Rattle.lucid_test_programs.proofs.Common.{sym, ◌∙◌, ap, frozen_at}
use Rattle.lucid_test_programs.proofs.Finds.{time_passed, time_met, no_time_left}
use Rattle.lucid_test_programs.proofs.eval.frozen_time.Goals as goal

pub loop-def-preserved : goal.loop-def-preserved
loop-def-preserved c =
    sym (time_passed c.args.time c.items-def-items.result.now c.loop-def.def-index c.def-item.result c.loop-def-test.true c.def-item.is
    c.in_default.not-Current) ∙ c.loop-def.invariant

pub returns-in-Current-clause-value : goal.returns-in-Current-clause-value
returns-in-Current-clause-value c =
    sym (time_met c.args.time c.items-def-items.result.now c.loop-def.def-index c.def-item.result c.loop-def-test.true c.def-item.is c.in-Current.right
    c.in-Current.is) ∙ c.loop-def.invariant ∙ ap (λ ds. frozen_at ds c.args.time) c.items-def-items.ensures

pub returns-clause-value : goal.returns-clause-value
returns-clause-value c =
    sym (no_time_left c.args.time c.items-def-items.result.now c.loop-def.def-index c.loop-def-test.false) ∙ c.loop-def.invariant
    ∙ ap (λ ds. frozen_at ds c.args.time) c.items-def-items.ensures
