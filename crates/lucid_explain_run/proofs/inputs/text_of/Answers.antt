use Rattle.std.proofs.Common.{ℕ, List, ◌++◌, ap, ◌∙◌}
use Rattle.lucid_explain_run.specs.declared.inputs.Lacking.{Lacking}
use Rattle.lucid_explain_run.specs.Inputs.{inputs_text, lacking}
use Rattle.lucid_explain_run.proofs.inputs.text_of.Goals as goal

pub returns : goal.returns
returns c =
    lacking c.args.scoped.now c.in_ok-those.those.items c.requires.program c.in_ok-those.ensures
    (c.in_ok-put_inputs.ensures
    ∙ ap (λ (z : List ℕ). z ++ inputs_text c.args.source.now c.deref.result.now) c.new-text.ensures.items
    ∙ ap (λ (those : List Lacking). inputs_text c.args.source.now those) c.deref.ensures.value)
