use Rattle.lucid_scope.proofs.Common.{◌++◌, ap, sym, ◌∙◌, append-nil, look, marks, pending, told}
use Rattle.lucid_scope.proofs.steps.walk_tree.Goals as goal

pub loop-step-preserved : goal.loop-step-preserved
loop-step-preserved c = c.in_ok-take.ensures.told ∙ ap (told c.loop-step.walk) (sym c.in-Some.ensures) ∙ c.loop-step.invariant

pub returns : goal.returns
returns c =
    let w = c.args.walk.now in
    let found = marks (look w.table) c.args.tree.now in
    sym (append-nil c.loop-step.walk.marks.items) ∙ ap (told c.loop-step.walk) (sym c.in_default.ensures.0) ∙ c.loop-step.invariant ∙ c.in_ok-begin.ensures.told
    ∙ ap (λ st. w.marks.items ++ (found ++ pending (look w.table) st)) c.new-steps.ensures ∙ ap (λ l. w.marks.items ++ l) (append-nil found)
