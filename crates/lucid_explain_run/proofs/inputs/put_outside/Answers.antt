use Rattle.std.proofs.Common.{ℕ, List, ◌++◌, append_assoc, ap, ◌∙◌}
use Rattle.std.proofs.lemmas.Result.{on_ok_weaker}
use Rattle.lucid_explain_source.specs.Definitions.{definition_text}
use Rattle.lucid_explain_run.specs.Inputs.{outside_advice}
use Rattle.lucid_explain_run.proofs.inputs.put_outside.Goals as goal

pub returns : goal.returns
returns c =
    let definition = definition_text c.args.source.now c.args.def.now in
    on_ok_weaker c.put_definition.result
    (λ e. e ∙ ap (λ (z : List ℕ). z ++ definition) c.in_ok-extend_from_slice.ensures.items ∙ append_assoc c.args.text.now.items outside_advice definition)
    c.put_definition.ensures
