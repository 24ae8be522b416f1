use Rattle.std.proofs.Common.{◌≡◌, ℕ, List, ◌++◌, sym, subst}
use Rattle.std.proofs.lemmas.Result.{IfOk-weaker}
use Rattle.lucid_explain_run.specs.Judgments.{TellsJudgment}
use Rattle.lucid_explain_report.specs.declared.outlook.Again.{Again}
use Rattle.lucid_explain_report.specs.Files.{plain_again}
use Rattle.lucid_explain_report.specs.Stops.{stop_text}
use Rattle.lucid_explain_report.specs.Said.{TellsPiece}
use Rattle.lucid_explain_report.proofs.judgments.text_by_certificate.Goals as goal

pub returns-in-Bytes : goal.returns-in-Bytes
returns-in-Bytes c =
    let name = c.args.stopped.now.name.now in
    let source = c.args.stopped.now.source.now in
    let alone = stop_text c.args.stopped.now.stop.now in
    let number = c.args.number in
    IfOk-weaker c.text_of_piece.result
    (λ text. (said : List ℕ) × TellsJudgment name source c.deref.result.now number said × (text.items ≡ said ++ alone))
    (λ text. TellsPiece name source (plain_again c.args.certificate.now) number alone text.items)
    (λ text t. let P : Again → Type 0 = λ a. TellsPiece name source (plain_again a) number alone text.items in
    let R : List ℕ → Type 0 = λ z. TellsJudgment name source z number t.0 in
    subst P (sym c.in-Bytes.is) (t.0, subst R c.deref.ensures.value t.1, t.2)) c.text_of_piece.ensures
