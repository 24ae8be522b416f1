use Rattle.std.proofs.Common.{ℕ, List, sym, subst}
use Rattle.std.proofs.lemmas.Result.{IfOk-weaker}
use Rattle.lucid_words.specs.Asked.{plain_words}
use Rattle.lucid_explain_run.specs.Prompts.{TellsPrompt}
use Rattle.lucid_explain_report.specs.declared.outlook.Again.{Again}
use Rattle.lucid_explain_report.specs.Files.{plain_again}
use Rattle.lucid_explain_report.specs.Said.{names_given}
use Rattle.lucid_explain_command.specs.Prompted.{PromptsBy}
use Rattle.lucid_explain_command.proofs.prompt.prompt_by_file.Goals as goal

pub returns-in-Bytes : goal.returns-in-Bytes
returns-in-Bytes c =
    let asked = plain_words c.args.asked.now in
    IfOk-weaker c.prompt_of_source.result (λ text. TellsPrompt c.deref.result.now (names_given asked.given) text.items)
    (λ text. PromptsBy asked (plain_again c.args.again.now) text.items)
    (λ text t. let P : Again → Type 0 = λ a. PromptsBy asked (plain_again a) text.items in
    let Q : List ℕ → Type 0 = λ z. TellsPrompt z (names_given asked.given) text.items in
    subst P (sym c.in-Bytes.is) (subst Q c.deref.ensures.value t)) c.prompt_of_source.ensures
