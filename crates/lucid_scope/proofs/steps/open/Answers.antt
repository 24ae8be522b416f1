use Rattle.lucid_scope.proofs.Common.{◌∷◌, ◌++◌, ap, ◌∙◌, arith, look, put_back, marks, inside_marks, is_seen, pending, work_inside, work_left, is_some}
use Rattle.std.proofs.lemmas.Result.{on_ok_weaker}
use Rattle.lucid_scope.specs.declared.steps.Step.TheVariants.{Inside}
use Rattle.lucid_scope.proofs.Stepping.{opened}
use Rattle.lucid_scope.proofs.steps.open.Goals as goal

pub returns-clause-told : goal.returns-clause-told
returns-clause-told c =
    let w = c.args.walk.now in
    let f = look w.table in
    let g = look c.enter_block.new.table in
    let e = c.args.subject.now in
    let st = c.args.steps.now in
    let seen = c.make-seen.result in
    let saved = c.in_ok-saved.saved.items in
    on_ok_weaker c.begin.result
    (λ b.
    b ∙ ap (λ s. w.marks.items ++ (marks g e ++ pending g s))
    (c.in_ok-push-2.ensures ∙ ap (λ s. Inside c.definitions-defs.result seen ∷ s) c.in_ok-push.ensures)
    ∙ ap (λ ds. w.marks.items ++ (marks g e ++ (inside_marks g (is_seen seen) ds ++ pending (put_back saved g) st))) c.definitions-defs.ensures
    ∙ opened w.marks.items e c.args.defs.now st saved f g (is_seen seen) c.in_ok-saved.ensures.enters c.in_ok-saved.ensures.saves
    (λ n. ap is_some (c.make-seen.ensures n)))
    c.begin.ensures.told

pub returns-clause-work : goal.returns-clause-work
returns-clause-work c =
    on_ok_weaker c.begin.result
    (λ b. omega (arith, b, ap work_left c.in_ok-push-2.ensures, ap work_left c.in_ok-push.ensures, ap work_inside c.definitions-defs.ensures))
    c.begin.ensures.work
