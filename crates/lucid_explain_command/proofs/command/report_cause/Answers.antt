use Rattle.std.proofs.Common.{map, refl, sym, subst}
use Rattle.std.specs.String.{string_bytes}
use Rattle.lucid_report.specs.Status.{Outcome}
use Rattle.lucid_explain_command.proofs.Common.{told}
use Rattle.lucid_explain_command.specs.Explained.{ReportsCause}
use Rattle.lucid_explain_command.proofs.command.report_cause.Goals as goal

pub returns-in-Ok : goal.returns-in-Ok
returns-in-Ok g c =
    let files = g.F.Outlook.files c.args.outlook.now in
    let words = map string_bytes c.args.called.now.words.now in
    let before = told g.E.Sink.written g.E.Sink.faults g.E.Sink.late c.args.report.now in
    let P : Outcome → Type 0 = λ o. ReportsCause files words c.args.called.now.source.now o before before in
    subst P (sym c.in-Ok.is) refl

pub returns-in-Err : goal.returns-in-Err
returns-in-Err g c =
    let files = g.F.Outlook.files c.args.outlook.now in
    let words = map string_bytes c.args.called.now.words.now in
    let before = told g.E.Sink.written g.E.Sink.faults g.E.Sink.late c.args.report.now in
    let after = told g.E.Sink.written g.E.Sink.faults g.E.Sink.late c.report_stop.new.report in
    let P : Outcome → Type 0 = λ o. ReportsCause files words c.args.called.now.source.now o before after in
    subst P (sym c.in-Err.is) c.report_stop.ensures
