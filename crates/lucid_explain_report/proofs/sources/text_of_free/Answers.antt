use Rattle.lucid_explain_report.proofs.Common.{ℕ, List, ◌++◌, ap, ◌∙◌}
use Rattle.lucid_explain_report.proofs.sources.text_of_free.Goals as goal

pub returns : goal.returns
returns c = (
  c.in_ok-said.said.items,
  c.in_ok-said.ensures,
  c.in_ok-extend_from_slice.ensures.items
      ∙ ap (λ (z : List ℕ). c.in_ok-text.text.items ++ z) c.deref.ensures.value
      ∙ ap (λ (z : List ℕ). z ++ c.in_ok-said.said.items) (c.in_ok-text.ensures.items ∙ c.stop_text.ensures),
)
