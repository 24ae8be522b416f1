use Rattle.std.proofs.Common.{map}
use Rattle.std.specs.String.{string_bytes}
use Rattle.std.proofs.lemmas.Result.{IfOk-weaker}
use Rattle.lucid_words.specs.Asked.{plain_words}
use Rattle.lucid_explain_command.specs.Errors.{SaysOfTime, SaysError, run}
use Rattle.lucid_explain_command.proofs.errors.text_of_run.Goals as goal

pub returns : goal.returns
returns g c =
    let files = g.F.Outlook.files c.args.outlook.now in
    let terminal = g.F.Outlook.terminal c.args.outlook.now in
    let call = c.args.call.now in
    let words = map string_bytes call.words.now in
    let asked = plain_words call.asked.now in
    IfOk-weaker c.text_of_source.result (λ text. SaysOfTime files terminal words asked call.name.now call.source.now call.time text.items)
    (λ text. SaysError files terminal words call.source.now call.time text.items)
    (λ text t. run asked call.name.now c.requires.read c.requires.file t) c.text_of_source.ensures
