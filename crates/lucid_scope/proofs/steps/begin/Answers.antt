use Rattle.lucid_scope.proofs.Common.{◌≡◌, ℕ, ◌∷◌, [], ◌++◌, length, refl, ap, sym, ◌∙◌, arith, count, look, no_names, marks, marks_in, outside_marks, inside_marks, in_block_owned, pending, told, work_in, work_outside, work_left, Mark, Called}
use Rattle.std.proofs.lemmas.Result.{on_ok_weaker}
use Rattle.lucid_tree.proofs.Counts.{count_listed as count-trees}
use Rattle.lucid_scope.specs.Steps.{work}
use Rattle.lucid_scope.specs.declared.steps.Step.TheVariants.{Outside}
use Rattle.lucid_scope.proofs.Noting.{noted-then}
use Rattle.lucid_scope.proofs.Stepping.{in-three}
use Rattle.lucid_scope.proofs.steps.begin.Goals as goal

pub returns-in-Name-clause-told : goal.returns-in-Name-clause-told
returns-in-Name-clause-told c =
    let w = c.args.walk.now in
    let st = c.args.steps.now in
    on_ok_weaker c.note_name.result
    (λ n.
    noted-then w c.note_name.new.walk _ (λ f. pending f st) n
    ∙ ap (λ e. w.marks.items ++ (marks (look w.table) e ++ pending (look w.table) st)) c.in-Name.ensures.tree)
    c.note_name.ensures

pub returns-in-Form-clause-told : goal.returns-in-Form-clause-told
returns-in-Form-clause-told c =
    let w = c.args.walk.now in
    let st = c.args.steps.now in
    on_ok_weaker c.push.result (λ p. ap (told w) p ∙ ap (λ e. w.marks.items ++ (marks (look w.table) e ++ pending (look w.table) st)) c.in-Form.ensures.tree)
    c.push.ensures

pub returns-in-Form-clause-work : goal.returns-in-Form-clause-work
returns-in-Form-clause-work c = on_ok_weaker c.push.result (λ p. omega (arith, ap work_left p, ap work c.in-Form.ensures.tree)) c.push.ensures

pub returns-in_ok-note_call-in-Call-clause-told : goal.returns-in_ok-note_call-in-Call-clause-told
returns-in_ok-note_call-in-Call-clause-told c =
    let v = c.args.walk.now in
    let w = c.note_call.new.walk in
    let f = look v.table in
    let st = c.args.steps.now in
    let es = c.in-Call.args.now in
    let one : ℕ → Mark = λ n. record { at = c.in-Call.at; what = Called c.in-Call.name.now (f c.in-Call.name.now) n } in
    let given : ℕ = length c.items.result.now in
    let same : count es ≡ given = ap count (sym c.items.ensures) ∙ count-trees c.items.result.now in
    on_ok_weaker c.push-in-Call.result
    (λ p.
    ap (told w) p ∙ ap (λ x. w.marks.items ++ (marks_in (look w.table) x ++ pending (look w.table) st)) c.parts.ensures
    ∙ noted-then v w (one given ∷ []) (λ x. marks_in x es ++ pending x st) c.in_ok-note_call-in-Call.ensures
    ∙ ap (λ n. v.marks.items ++ (one n ∷ (marks_in f es ++ pending f st))) (sym same)
    ∙ ap (λ e. v.marks.items ++ (marks f e ++ pending f st)) c.in-Call.ensures.tree)
    c.push-in-Call.ensures

pub returns-in_ok-note_call-in-Call-clause-work : goal.returns-in_ok-note_call-in-Call-clause-work
returns-in_ok-note_call-in-Call-clause-work c =
    on_ok_weaker c.push-in-Call.result (λ p. omega (arith, ap work_left p, ap work_in c.parts.ensures, ap work c.in-Call.ensures.tree)) c.push-in-Call.ensures

pub returns-in_ok-push-in-Scope-clause-told : goal.returns-in_ok-push-in-Scope-clause-told
returns-in_ok-push-in-Scope-clause-told c =
    let w = c.args.walk.now in
    let f = look w.table in
    let st = c.args.steps.now in
    let e = c.in-Scope.subject.now in
    let ds = c.in-Scope.defs.now in
    let g = in_block_owned ds f in
    on_ok_weaker c.push-in-Scope-2.result
    (λ p.
    ap (told w) (p ∙ ap (λ s. Outside c.definitions.result ∷ s) c.in_ok-push-in-Scope.ensures)
    ∙ ap (λ x. w.marks.items ++ (outside_marks f x ++ (marks g e ++ (inside_marks g no_names ds ++ pending f st)))) c.definitions.ensures
    ∙ in-three w.marks.items (outside_marks f ds) (marks g e) (inside_marks g no_names ds) (pending f st)
    (outside_marks f ds ++ (marks g e ++ inside_marks g no_names ds)) refl
    ∙ ap (λ t. w.marks.items ++ (marks f t ++ pending f st)) c.in-Scope.ensures.tree)
    c.push-in-Scope-2.ensures

pub returns-in_ok-push-in-Scope-clause-work : goal.returns-in_ok-push-in-Scope-clause-work
returns-in_ok-push-in-Scope-clause-work c =
    on_ok_weaker c.push-in-Scope-2.result
    (λ p. omega (arith, ap work_left p, ap work_left c.in_ok-push-in-Scope.ensures, ap work_outside c.definitions.ensures, ap work c.in-Scope.ensures.tree))
    c.push-in-Scope-2.ensures
