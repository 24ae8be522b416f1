use Rattle.lucid_scope.proofs.Common.{◌++◌, ap, sym, ◌∙◌, arith, look, outer_marks, pending, outer_work}
use Rattle.std.proofs.lemmas.Result.{on_ok_weaker}
use Rattle.lucid_scope.proofs.steps.begin_outside.Goals as goal

pub returns-in-Current-clause-told : goal.returns-in-Current-clause-told
returns-in-Current-clause-told c =
    let w = c.args.walk.now in
    let f = look w.table in
    on_ok_weaker c.begin.result (λ b. b ∙ ap (λ k. w.marks.items ++ (outer_marks f k ++ pending f c.args.steps.now)) (sym c.in-Current.is)) c.begin.ensures.told

pub returns-in-Current-clause-work : goal.returns-in-Current-clause-work
returns-in-Current-clause-work c = on_ok_weaker c.begin.result (λ b. omega (arith, b, ap outer_work c.in-Current.is)) c.begin.ensures.work
