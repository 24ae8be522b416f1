use Rattle.std.proofs.lemmas.Result.{IfOk-weaker}
use Rattle.std.proofs.Common.{◌≡◌}
use Rattle.lucid_words.specs.Asked.{plain_words}
use Rattle.lucid_explain_report.specs.Said.{or_unknown, SaysFiles}
use Rattle.lucid_explain_report.proofs.faults.text_of_faults.Goals as goal

pub returns : goal.returns
returns g c =
    IfOk-weaker c.or_unknown.result (λ text. text.items ≡ or_unknown c.in_ok-told.told.items)
    (λ text. SaysFiles (g.F.Outlook.files c.args.outlook.now) (plain_words c.args.asked.now) text.items)
    (λ text e. (c.in_ok-told.told.items, c.in_ok-told.ensures, e)) c.or_unknown.ensures
