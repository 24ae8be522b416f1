use Rattle.std.proofs.Common.{Bool, List, ℕ, ap, ◌∙◌, map, subst}
use Rattle.std.specs.String.{string_bytes}
use Rattle.lucid_explain_command.proofs.Common.{told}
use Rattle.lucid_explain_command.specs.declared.behind.Behind.{Behind}
use Rattle.std.specs.Prelude.{◌&&◌}
use Rattle.lucid_explain_command.specs.Behind.{behind_of, wrote_values, may_note}
use Rattle.lucid_explain_command.specs.Keeping.{plain_kept, remembered, IsRead}
use Rattle.lucid_explain_command.specs.Noting.{Seen, Notes, plain_noted}
use Rattle.lucid_explain_command.specs.Explained.{Reports, ReportsBehind, ReportsNote}
use Rattle.lucid_explain_command.proofs.command.lucid_explain.Goals as goal

pub returns : goal.returns
returns g c =
    let between = told g.E.Sink.written g.E.Sink.faults g.E.Sink.late c.prompt_terminal.new.report in
    let halfway = told g.E.Sink.written g.E.Sink.faults g.E.Sink.late c.report_call-status.new.report in
    let almost = told g.E.Sink.written g.E.Sink.faults g.E.Sink.late c.report_behind.new.report in
    let after = told g.E.Sink.written g.E.Sink.faults g.E.Sink.late c.report_note.new.report in
    let files = g.F.Outlook.files c.args.outlook.now in
    let terminal = g.F.Outlook.terminal c.args.outlook.now in
    let words = map string_bytes c.args.words.now in
    let outcome = c.outcome_of-outcome.result in
    let status = c.report_call-status.result in
    let places = c.outcome_of-outcome.new.places in
    let I : List ℕ → Type 0 = λ z. IsRead (remembered (plain_kept places.kept) (g.P.Places.world places.inner)) z in
    let R : List ℕ → Type 0 = λ z. Reports files words z outcome status between halfway in
    let P : Behind → Type 0 = λ b. ReportsBehind files terminal words c.read.result.now b halfway almost in
    let Q : List ℕ → Type 0 = λ z. ReportsBehind files terminal words z (behind_of status (plain_noted c.outcome_of-outcome.new.out.noted)) halfway almost in
    let V : Bool → Type 0 = λ b. ReportsNote words c.read.result.now (b && may_note words c.read.result.now outcome) almost after in
    let W : List ℕ → Type 0 = λ z. ReportsNote words z (wrote_values status (plain_noted c.outcome_of-outcome.new.out.noted) && may_note words z outcome) almost after in
    let N : Seen → Type 0 = λ s. Notes (g.K.Sink.written c.outcome_of-outcome.new.out.sink) s in
    record {
      outcome = outcome;
      met = c.outcome_of-outcome.ensures;
      read = subst I c.read.ensures.value c.read.ensures.read;
      between = between;
      prompts = c.prompt_terminal.ensures;
      noted = subst N c.noted-noted.ensures.value c.noted-noted.ensures.notes;
      halfway = halfway;
      reports = subst R c.read.ensures.value c.report_call-status.ensures;
      almost = almost;
      more = subst Q c.read.ensures.value (subst P (c.behind_of-behind.ensures ∙ ap (behind_of status) c.noted-noted.ensures.value) c.report_behind.ensures);
      note = subst W c.read.ensures.value (subst V (c.wrote_values-has_values.ensures ∙ ap (wrote_values status) c.noted-noted.ensures.value) c.report_note.ensures);
    }
