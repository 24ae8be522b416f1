use Rattle.std.proofs.Common.{map}
use Rattle.std.specs.String.{string_bytes}
use Rattle.lucid_explain_command.specs.Behind.{SaysCount}
use Rattle.lucid_explain_command.proofs.Explaining.{writes_made}
use Rattle.lucid_explain_command.proofs.command.report_lines.Goals as goal

pub returns : goal.returns
returns g c =
    let words = map string_bytes c.args.words.now in
    writes_made c.text_of_count.result (λ text. SaysCount words text) _ _ c.text_of_count.ensures c.report_text.ensures
