use Rattle.lucid_explain_report.proofs.Common.{ℕ, List, ◌++◌, ap, ◌∙◌}
use Rattle.lucid_explain_report.proofs.judgments.text_of_piece.Goals as goal

pub returns : goal.returns
returns c =
    let said = c.in_ok-text.text.items in (
      said,
      c.in_ok-text.ensures,
      c.in_ok-extend_from_slice.ensures.items ∙ ap (λ (z : List ℕ). said ++ z) c.stop_text.ensures,
    )
