use Rattle.std.proofs.Common.{ℕ, List, subst}
use Rattle.std.proofs.lemmas.Result.{IfOk-weaker}
use Rattle.lucid_words.specs.Asked.{plain_words}
use Rattle.lucid_explain_report.specs.Causes.{cause_of}
use Rattle.lucid_explain_report.specs.Said.{SaysBy, Says}
use Rattle.lucid_explain_report.proofs.explaining.text_of_call.Goals as goal

pub returns : goal.returns
returns g c =
    let files = g.F.Outlook.files c.args.outlook.now in
    let asked = plain_words c.args.asked.now in
    let why = c.args.stop.now in
    IfOk-weaker c.text_by.result (λ text. SaysBy (cause_of asked why) files asked c.name_of-name.result.now c.args.source.now why text.items)
    (λ text. Says files asked c.args.source.now why text.items)
    (λ text t. let P : List ℕ → Type 0 = λ z. SaysBy (cause_of asked why) files asked z c.args.source.now why text.items in
    subst P c.name_of-name.ensures t) c.text_by.ensures
