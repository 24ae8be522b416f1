use Rattle.std.proofs.Common.{List, ℕ, Bool, map, sym, subst, ◌∙◌, ◌==◌}
use Rattle.std.proofs.lemmas.List.{length-map}
use Rattle.std.specs.String.{string_bytes}
use Rattle.lucid_explain_command.proofs.Common.{told}
use Rattle.lucid_explain_command.specs.Explained.{ReportsExplanation, ReportsStop, Writes}
use Rattle.lucid_explain_command.proofs.command.report_stop.Goals as goal

pub returns-then-wants_memory : goal.returns-then-wants_memory
returns-then-wants_memory g c =
    let files = g.F.Outlook.files c.args.outlook.now in
    let list = c.args.called.now.words.now in
    let source = c.args.called.now.source.now in
    let before = told g.E.Sink.written g.E.Sink.faults g.E.Sink.late c.args.report.now in
    let after = told g.E.Sink.written g.E.Sink.faults g.E.Sink.late c.report_explanation.new.report in
    let P : Bool → Type 0 = λ b. ReportsStop b files (map string_bytes list) source c.args.stop.now before after in
    let Q : ℕ → Type 0 = λ n. ReportsExplanation (n == 0) files (map string_bytes list) source c.args.stop.now before after in
    subst P (sym (sym c.wants_memory.ensures ∙ c.if-wants_memory.true)) (subst Q (sym (length-map list string_bytes)) c.report_explanation.ensures)

pub returns-else-wants_memory : goal.returns-else-wants_memory
returns-else-wants_memory g c =
    let files = g.F.Outlook.files c.args.outlook.now in
    let words = map string_bytes c.args.called.now.words.now in
    let source = c.args.called.now.source.now in
    let before = told g.E.Sink.written g.E.Sink.faults g.E.Sink.late c.args.report.now in
    let after = told g.E.Sink.written g.E.Sink.faults g.E.Sink.late c.report_alone.new.report in
    let P : Bool → Type 0 = λ b. ReportsStop b files words source c.args.stop.now before after in
    let Q : List ℕ → Type 0 = λ z. Writes z before after in
    subst P (sym (sym c.wants_memory.ensures ∙ c.if-wants_memory.false)) (subst Q c.stop_text.ensures c.report_alone.ensures)
