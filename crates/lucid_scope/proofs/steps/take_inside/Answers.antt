use Rattle.lucid_scope.proofs.Common.{◌++◌, map, ap, ◌∙◌, arith, look, again_if, mark, inner_marks, inside_marks, is_seen, pending, work_left}
use Rattle.std.proofs.lemmas.Result.{on_ok_weaker}
use Rattle.lucid_scope.proofs.Noting.{noted-then}
use Rattle.lucid_scope.proofs.Stepping.{in-three, inside-next, inside-falls}
use Rattle.lucid_scope.proofs.steps.take_inside.Goals as goal

pub returns-in_ok-push-in-Some-clause-told : goal.returns-in_ok-push-in-Some-clause-told
returns-in_ok-push-in-Some-clause-told c =
    let v = c.args.walk.now in
    let w = c.note_repeat.new.walk in
    let f = look v.table in
    let d = c.in-Some.def.now in
    let es = c.next.new.self in
    let st = c.args.steps.now in
    let before = is_seen c.args.seen in
    let after = is_seen c.note_repeat.new.seen in
    let again = map mark (again_if (before d.name) d.at) in
    on_ok_weaker c.begin_inside.result
    (λ b.
    b ∙ ap (λ s. w.marks.items ++ (inner_marks (look w.table) d.at d.kind ++ pending (look w.table) s)) c.in_ok-push-in-Some.ensures
    ∙ noted-then v w again (λ x. inner_marks x d.at d.kind ++ (inside_marks x after es ++ pending x st)) c.in_ok-note_repeat-in-Some.ensures.noted
    ∙ in-three v.marks.items again (inner_marks f d.at d.kind) (inside_marks f after es) (pending f st) (inside_marks f before c.args.defs)
    (inside-next f d c.args.defs es before after c.in-Some.ensures.steps c.in_ok-note_repeat-in-Some.ensures.seen))
    c.begin_inside.ensures.told

pub returns-in_ok-push-in-Some-clause-work : goal.returns-in_ok-push-in-Some-clause-work
returns-in_ok-push-in-Some-clause-work c =
    on_ok_weaker c.begin_inside.result
    (λ b. omega (arith, b, ap work_left c.in_ok-push-in-Some.ensures, inside-falls c.in-Some.def.now c.args.defs c.next.new.self c.in-Some.ensures.steps))
    c.begin_inside.ensures.work
