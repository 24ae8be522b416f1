use Rattle.std.proofs.Common.{Bool, map, sym, subst, ◌∙◌}
use Rattle.std.specs.String.{string_bytes}
use Rattle.lucid_explain_report.specs.Said.{IsExplanation}
use Rattle.lucid_explain_command.proofs.Common.{told}
use Rattle.lucid_explain_command.specs.Explained.{ReportsExplanation}
use Rattle.lucid_explain_command.proofs.Explaining.{writes_made}
use Rattle.lucid_explain_command.proofs.command.report_explanation.Goals as goal

pub returns-then-is_empty : goal.returns-then-is_empty
returns-then-is_empty g c =
    let files = g.F.Outlook.files c.args.outlook.now in
    let words = map string_bytes c.args.called.now.words.now in
    let source = c.args.called.now.source.now in
    let before = told g.E.Sink.written g.E.Sink.faults g.E.Sink.late c.args.report.now in
    let after = told g.E.Sink.written g.E.Sink.faults g.E.Sink.late c.report_alone.new.report in
    let P : Bool → Type 0 = λ b. ReportsExplanation b files words source c.args.stop.now before after in
    subst P (sym (sym c.is_empty.ensures ∙ c.if-is_empty.true)) c.report_alone.ensures

pub returns-else-is_empty : goal.returns-else-is_empty
returns-else-is_empty g c =
    let files = g.F.Outlook.files c.args.outlook.now in
    let words = map string_bytes c.args.called.now.words.now in
    let source = c.args.called.now.source.now in
    let before = told g.E.Sink.written g.E.Sink.faults g.E.Sink.late c.args.report.now in
    let after = told g.E.Sink.written g.E.Sink.faults g.E.Sink.late c.report_text.new.report in
    let P : Bool → Type 0 = λ b. ReportsExplanation b files words source c.args.stop.now before after in
    subst P (sym (sym c.is_empty.ensures ∙ c.if-is_empty.false))
    (writes_made c.explain_stop-text.result (λ text. IsExplanation files words source c.args.stop.now text) _ _ c.explain_stop-text.ensures c.report_text.ensures)
