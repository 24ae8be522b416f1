use Rattle.lucid_scope.proofs.Common.{◌++◌, map, refl, ap, sym, ◌∙◌, arith, look, repeats, no_names, mark, marks, inner_marks, in_function_owned, pending, inner_work, work_left}
use Rattle.std.proofs.lemmas.Result.{on_ok_weaker}
use Rattle.lucid_scope.proofs.Noting.{noted-then}
use Rattle.lucid_scope.proofs.Stepping.{in-two, entered}
use Rattle.lucid_scope.proofs.steps.begin_inside.Goals as goal

pub returns-in-Plain-clause-told : goal.returns-in-Plain-clause-told
returns-in-Plain-clause-told c =
    let w = c.args.walk.now in
    let f = look w.table in
    on_ok_weaker c.begin.result (λ b. b ∙ ap (λ k. w.marks.items ++ (inner_marks f c.args.def.now.at k ++ pending f c.args.steps.now)) (sym c.in-Plain.is))
    c.begin.ensures.told

pub returns-in-Plain-clause-work : goal.returns-in-Plain-clause-work
returns-in-Plain-clause-work c = on_ok_weaker c.begin.result (λ b. omega (arith, b, ap inner_work c.in-Plain.is)) c.begin.ensures.work

pub returns-in_ok-push-in-Function-clause-told : goal.returns-in_ok-push-in-Function-clause-told
returns-in_ok-push-in-Function-clause-told c =
    let v = c.args.walk.now in
    let w = c.note_repeats.new.walk in
    let f = look v.table in
    let h = look w.table in
    let g = look c.enter_function.new.table in
    let at = c.args.def.now.at in
    let ps = c.in-Function.parameters in
    let e = c.in-Function.right in
    let st = c.args.steps.now in
    let again = map mark (repeats no_names ps c.in-Function.places) in
    on_ok_weaker c.begin-in-Function.result
    (λ b.
    b ∙ ap (λ s. w.marks.items ++ (marks g e ++ pending g s)) c.in_ok-push-in-Function.ensures
    ∙ entered w.marks.items e st c.in_ok-saved-in-Function.saved.items h g (in_function_owned at ps h) c.in_ok-saved-in-Function.ensures.enters
    c.in_ok-saved-in-Function.ensures.saves
    ∙ noted-then v w again (λ x. marks (in_function_owned at ps x) e ++ pending x st) c.in_ok-note_repeats-in-Function.ensures
    ∙ in-two v.marks.items again (marks (in_function_owned at ps f) e) (pending f st) (again ++ marks (in_function_owned at ps f) e) refl
    ∙ ap (λ k. v.marks.items ++ (inner_marks f at k ++ pending f st)) (sym c.in-Function.is))
    c.begin-in-Function.ensures.told

pub returns-in_ok-push-in-Function-clause-work : goal.returns-in_ok-push-in-Function-clause-work
returns-in_ok-push-in-Function-clause-work c =
    on_ok_weaker c.begin-in-Function.result (λ b. omega (arith, b, ap work_left c.in_ok-push-in-Function.ensures, ap inner_work c.in-Function.is))
    c.begin-in-Function.ensures.work
