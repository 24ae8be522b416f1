use Rattle.std.proofs.Common.{ℕ, List, ◌++◌, append_assoc, ap, ◌∙◌}
use Rattle.std.specs.Prelude.{codes}
use Rattle.std.proofs.lemmas.Result.{on_ok_weaker}
use Rattle.lucid_explain_places.specs.Positions.{where_text}
use Rattle.lucid_explain_source.specs.Definitions.{name_text}
use Rattle.lucid_explain_run.proofs.inputs.put_stands.Goals as goal

pub returns : goal.returns
returns c = on_ok_weaker c.put_where.result
    (λ e.
    e
    ∙ ap (λ (z : List ℕ). z ++ where_text (codes " stands first in line ") c.args.source.now c.min-at.result) (c.in_ok-put_name.ensures ∙ ap (λ (z : List ℕ). c.args.text.now.items ++ name_text z) c.bytes.ensures.value)
    ∙ append_assoc c.args.text.now.items (name_text c.args.name.now) (where_text (codes " stands first in line ") c.args.source.now c.min-at.result)
    ∙ ap (λ (n : ℕ). c.args.text.now.items ++ (name_text c.args.name.now ++ where_text (codes " stands first in line ") c.args.source.now n)) c.min-at.ensures)
    c.put_where.ensures
