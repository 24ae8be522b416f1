use Rattle.lucid_explain_report.proofs.Common.{◌≡◌, ap, ◌∙◌, IfOk-weaker}
use Rattle.lucid_explain_report.specs.Notes.{first_note, note_text, TellsNote, noted}
use Rattle.lucid_explain_report.proofs.notes.text_of_short.Goals as goal

pub returns-in-Ok : goal.returns-in-Ok
returns-in-Ok c =
    let file = c.args.file.now in
    let source = c.args.source.now in
    IfOk-weaker c.text_of_note.result (λ text. text.items ≡ note_text file source c.first_note.result) (λ text. TellsNote file source text.items)
    (λ text e. noted c.requires c.in-Ok.tokens.items c.in-Ok.ensures.tokens
    (e ∙ ap (note_text file source) (c.first_note.ensures ∙ ap (first_note source) c.deref.ensures.value))) c.text_of_note.ensures
