use Rattle.lucid_explain_source.proofs.Common.{ℕ, List, ◌++◌, ap, ◌∙◌}
use Rattle.lucid_explain_source.specs.Columns.{columns_text, columns}
use Rattle.lucid_explain_source.proofs.columns.text_of_columns.Goals as goal

pub returns : goal.returns
returns c =
    columns c.args.tree.now c.requires.program
    (c.in_ok-put_columns.ensures ∙ ap (λ (z : List ℕ). z ++ columns_text c.args.source.now c.args.tree.now) c.new-text.ensures.items)
