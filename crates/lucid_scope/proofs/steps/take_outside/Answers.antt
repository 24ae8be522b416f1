use Rattle.lucid_scope.proofs.Common.{◌++◌, ap, ◌∙◌, arith, look, outer_marks, outside_marks, pending, work_left}
use Rattle.std.proofs.lemmas.Result.{on_ok_weaker}
use Rattle.lucid_scope.proofs.Stepping.{in-two, outside-next, outside-falls}
use Rattle.lucid_scope.proofs.steps.take_outside.Goals as goal

pub returns-in_ok-push-in-Some-clause-told : goal.returns-in_ok-push-in-Some-clause-told
returns-in_ok-push-in-Some-clause-told c =
    let w = c.args.walk.now in
    let f = look w.table in
    let d = c.in-Some.def.now in
    let es = c.next.new.self in
    on_ok_weaker c.begin_outside.result
    (λ b.
    b ∙ ap (λ s. w.marks.items ++ (outer_marks f d.kind ++ pending f s)) c.in_ok-push-in-Some.ensures
    ∙ in-two w.marks.items (outer_marks f d.kind) (outside_marks f es) (pending f c.args.steps.now) (outside_marks f c.args.defs)
    (outside-next f d c.args.defs es c.in-Some.ensures.steps))
    c.begin_outside.ensures.told

pub returns-in_ok-push-in-Some-clause-work : goal.returns-in_ok-push-in-Some-clause-work
returns-in_ok-push-in-Some-clause-work c =
    on_ok_weaker c.begin_outside.result
    (λ b. omega (arith, b, ap work_left c.in_ok-push-in-Some.ensures, outside-falls c.in-Some.def.now c.args.defs c.next.new.self c.in-Some.ensures.steps))
    c.begin_outside.ensures.work
