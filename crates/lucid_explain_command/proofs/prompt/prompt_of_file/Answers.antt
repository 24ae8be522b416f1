use Rattle.std.proofs.Common.{map}
use Rattle.std.specs.String.{string_bytes}
use Rattle.std.proofs.lemmas.Result.{IfOk-weaker}
use Rattle.lucid_words.specs.Asked.{plain_words}
use Rattle.lucid_explain_report.specs.Files.{plain_again}
use Rattle.lucid_explain_command.specs.Prompted.{PromptsBy, IsPrompt, run}
use Rattle.lucid_explain_command.proofs.prompt.prompt_of_file.Goals as goal

pub returns : goal.returns
returns g c =
    let asked = plain_words c.args.asked.now in
    let seen = plain_again c.in_ok-again.again in
    IfOk-weaker c.prompt_by_file.result (λ text. PromptsBy asked seen text.items)
    (λ text. IsPrompt (g.F.Outlook.files c.args.outlook.now) (map string_bytes c.args.words.now) text.items)
    (λ text t. run asked c.args.name.now seen c.requires.read c.requires.file c.in_ok-again.ensures t) c.prompt_by_file.ensures
