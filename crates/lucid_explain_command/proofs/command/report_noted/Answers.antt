use Rattle.std.proofs.Common.{map}
use Rattle.std.specs.String.{string_bytes}
use Rattle.lucid_explain_command.specs.Behind.{SaysNote}
use Rattle.lucid_explain_command.proofs.Explaining.{writes_made}
use Rattle.lucid_explain_command.proofs.command.report_noted.Goals as goal

pub returns : goal.returns
returns g c =
    let words = map string_bytes c.args.called.now.words.now in
    let source = c.args.called.now.source.now in
    writes_made c.text_of_note-text.result (λ text. SaysNote words source text) _ _ c.text_of_note-text.ensures c.report_text.ensures
