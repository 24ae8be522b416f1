use Rattle.lucid_texts.proofs.Spaced.{appended}
use Rattle.std.proofs.Common.{ℕ, List, ◌++◌, ap, ◌∙◌}
use Rattle.std.specs.Prelude.{codes}
use Rattle.lucid_explain_errors.specs.Inputs.{short_shown, quoted_text, mark_text, shown_line}
use Rattle.lucid_explain_errors.proofs.Parts.{five}
use Rattle.lucid_explain_errors.proofs.inputs.put_shown_line.Goals as goal

pub returns : goal.returns
returns c =
    let text = c.args.text.now.items in
    let line = c.args.line.now in
    let four = c.put_quoted.new.text.items in
    appended c.extend_from_slice-3.result c.extend_from_slice-3.new.self.items four c.mark_text.result.now (text ++ shown_line line)
    c.extend_from_slice-3.ensures.items
    (ap (λ (z : List ℕ). four ++ z) c.mark_text.ensures
    ∙ five text (codes "The line is: ") (short_shown line) (codes "\n") (quoted_text line) (mark_text line) c.extend_from_slice.new.self.items
    c.put_short_shown.new.text.items c.extend_from_slice-2.new.self.items four c.in_ok-extend_from_slice.ensures.items c.in_ok-put_short_shown.ensures
    c.in_ok-extend_from_slice-2.ensures.items c.in_ok-put_quoted.ensures)
