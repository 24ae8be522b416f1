use Rattle.std.proofs.Common.{ℕ, List, ◌++◌, ap, ◌∙◌}
use Rattle.lucid_explain_run.specs.Depths.{unjudged_text, unjudged}
use Rattle.lucid_explain_run.proofs.depth.text_of_refusal.Goals as goal

pub returns : goal.returns
returns c =
    unjudged c.args.scoped.now c.args.refusal.now c.requires.known c.requires.program c.requires.refused
    (c.in_ok-put_unjudged.ensures ∙ ap (λ (z : List ℕ). z ++ unjudged_text c.args.source.now c.args.deep.limit c.args.refusal.now) c.new-text.ensures.items)
