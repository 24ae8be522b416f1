use Rattle.std.proofs.Common.{map}
use Rattle.std.specs.String.{string_bytes}
use Rattle.lucid_explain_command.specs.Errors.{SaysError}
use Rattle.lucid_explain_command.proofs.Explaining.{writes_made}
use Rattle.lucid_explain_command.proofs.command.report_time.Goals as goal

pub returns : goal.returns
returns g c =
    let files = g.F.Outlook.files c.args.outlook.now in
    let terminal = g.F.Outlook.terminal c.args.outlook.now in
    let words = map string_bytes c.args.called.now.words.now in
    let source = c.args.called.now.source.now in
    writes_made c.text_of_error-text.result (λ text. SaysError files terminal words source c.args.time text) _ _ c.text_of_error-text.ensures c.report_text.ensures
