use Rattle.std.proofs.Common.{Bool, ℕ, List, ◌++◌, ap, ◌∙◌}
use Rattle.lucid_explain_run.specs.declared.inputs.Lacking.{Lacking}
use Rattle.lucid_scope.specs.Scoped.{scoped_inputs}
use Rattle.lucid_explain_run.specs.Prompts.{are_others, only_text, lacking}
use Rattle.lucid_explain_run.proofs.prompt.text_of_scoped.Goals as goal

pub returns : goal.returns
returns c =
    let inputs = scoped_inputs c.args.scoped.now in
    lacking c.args.scoped.now c.in_ok-those.those.items c.requires.program c.in_ok-those.ensures
    (c.in_ok-put_only.ensures
    ∙ ap (λ (z : List ℕ). z ++ only_text c.args.source.now c.are_others-is_read.result c.deref.result.now) c.new-text.ensures.items
    ∙ ap (λ (those : List Lacking). only_text c.args.source.now c.are_others-is_read.result those) c.deref.ensures.value
    ∙ ap (λ (b : Bool). only_text c.args.source.now b c.in_ok-those.those.items) c.are_others-is_read.ensures
    ∙ ap (λ (names : List (List ℕ)). only_text c.args.source.now (are_others c.args.given.now names) c.in_ok-those.those.items) c.inputs.ensures.value)
