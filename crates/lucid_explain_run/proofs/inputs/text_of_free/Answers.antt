use Rattle.std.proofs.Common.{ℕ, List, ◌++◌, ap, ◌∙◌}
use Rattle.lucid_explain_run.specs.declared.inputs.Lacking.{Lacking}
use Rattle.lucid_explain_run.specs.Inputs.{free_text, all_inputs}
use Rattle.lucid_explain_run.proofs.inputs.text_of_free.Goals as goal

pub returns : goal.returns
returns c =
    all_inputs c.args.scoped.now c.in_ok-those.those.items c.requires.program c.in_ok-those.ensures
    (c.in_ok-put_free.ensures
    ∙ ap (λ (z : List ℕ). z ++ free_text c.args.source.now c.deref.result.now) c.new-text.ensures.items
    ∙ ap (λ (those : List Lacking). free_text c.args.source.now those) c.deref.ensures.value)
