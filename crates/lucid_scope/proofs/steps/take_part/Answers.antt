use Rattle.lucid_scope.proofs.Common.{◌++◌, ap, ◌∙◌, arith, look, marks, marks_in, pending, work_in, work_left}
use Rattle.std.proofs.lemmas.Result.{on_ok_weaker}
use Rattle.lucid_scope.proofs.Stepping.{in-two}
use Rattle.lucid_scope.proofs.steps.take_part.Goals as goal

pub returns-in_ok-push-in-Some-clause-told : goal.returns-in_ok-push-in-Some-clause-told
returns-in_ok-push-in-Some-clause-told c =
    let w = c.args.walk.now in
    let f = look w.table in
    let e = c.in-Some.part.now in
    on_ok_weaker c.begin.result
    (λ b.
    b ∙ ap (λ s. w.marks.items ++ (marks f e ++ pending f s)) c.in_ok-push-in-Some.ensures
    ∙ in-two w.marks.items (marks f e) (marks_in f c.next.new.self) (pending f c.args.steps.now) (marks_in f c.args.parts)
    (ap (marks_in f) c.in-Some.ensures.steps))
    c.begin.ensures.told

pub returns-in_ok-push-in-Some-clause-work : goal.returns-in_ok-push-in-Some-clause-work
returns-in_ok-push-in-Some-clause-work c =
    on_ok_weaker c.begin.result (λ b. omega (arith, b, ap work_left c.in_ok-push-in-Some.ensures, ap work_in c.in-Some.ensures.steps)) c.begin.ensures.work
