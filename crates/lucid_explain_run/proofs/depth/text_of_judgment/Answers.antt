use Rattle.std.proofs.Common.{ℕ, List, ◌++◌, ap, ◌∙◌}
use Rattle.lucid_scope.specs.Scoped.{scoped_tree}
use Rattle.lucid_explain_run.specs.Depths.{judged_text, judged}
use Rattle.lucid_explain_run.proofs.depth.text_of_judgment.Goals as goal

pub returns : goal.returns
returns c =
    judged c.args.scoped.now c.args.judgment.now c.requires.program c.requires.judged c.requires.enough
    (c.in_ok-put_judged.ensures ∙ ap (λ (z : List ℕ). z ++ judged_text (scoped_tree c.args.scoped.now) c.args.deep.time c.args.judgment.now)
    c.new-text.ensures.items)
