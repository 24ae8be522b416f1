use Rattle.lucid_explain_report.proofs.Common.{ℕ, List, ◌++◌, append_assoc, ap, ◌∙◌}
use Rattle.lucid_explain_report.specs.Stops.{stop_text}
use Rattle.lucid_explain_report.proofs.sources.text_of_time.Goals as goal

pub returns : goal.returns
returns c =
    let said = c.in_ok-text.text.items in
    let note = c.in_ok-note.note.items in
    let stop = stop_text c.args.stopped.now.stop.now in
    let one = c.extend_from_slice.new.self.items in (
      said,
      note,
      c.in_ok-text.ensures,
      c.in_ok-note.ensures,
      c.in_ok-extend_from_slice-2.ensures.items
          ∙ ap (λ (z : List ℕ). one ++ z) c.deref.ensures.value
          ∙ ap (λ (z : List ℕ). z ++ note) (c.in_ok-extend_from_slice.ensures.items ∙ ap (λ (z : List ℕ). said ++ z) c.stop_text.ensures)
          ∙ append_assoc said stop note,
    )
