use Rattle.std.proofs.Common.{ℕ, List, subst}
use Rattle.std.proofs.lemmas.Result.{IfOk-weaker}
use Rattle.lucid_words.specs.Asked.{plain_words}
use Rattle.lucid_explain_report.specs.Files.{Held, IsSeen, plain_again}
use Rattle.lucid_explain_report.specs.Stops.{stop_text}
use Rattle.lucid_explain_report.specs.Said.{past_certificate, TellsPiece}
use Rattle.lucid_explain_report.proofs.judgments.text_of_judgment.Goals as goal

pub returns : goal.returns
returns g c =
    let files = g.F.Outlook.files c.args.outlook.now in
    let stopped = c.args.stopped.now in
    let asked = plain_words stopped.asked.now in
    let alone = stop_text stopped.stop.now in
    let certificate = plain_again c.in_ok-certificate.certificate in
    let P : List ℕ → Type 0 = λ z. IsSeen files z past_certificate certificate in
    IfOk-weaker c.text_by_certificate.result (λ text. TellsPiece stopped.name.now stopped.source.now certificate c.args.number alone text.items)
    (λ text. (seen : Held) × IsSeen files asked.check past_certificate seen × TellsPiece stopped.name.now stopped.source.now seen c.args.number alone text.items)
    (λ text t. (certificate, subst P c.deref.ensures c.in_ok-certificate.ensures, t)) c.text_by_certificate.ensures
