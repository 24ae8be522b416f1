use Rattle.std.proofs.Common.{ℕ, List, Global, Vec, sym, subst}
use Rattle.std.specs.Prelude.{Result}
use Rattle.std.specs.declared.alloc.AllocError.{AllocError}
use Rattle.lucid_explain_command.proofs.Common.{told}
use Rattle.lucid_explain_command.specs.Explained.{or_unsaid, Writes}
use Rattle.lucid_explain_command.proofs.command.report_text.Goals as goal

pub returns-in-Ok : goal.returns-in-Ok
returns-in-Ok g c =
    let before = told g.E.Sink.written g.E.Sink.faults g.E.Sink.late c.args.report.now in
    let after = told g.E.Sink.written g.E.Sink.faults g.E.Sink.late c.write_line.new.report in
    let P : List ℕ → Type 0 = λ z. Writes z before after in
    let Q : Result (Vec ℕ Global) AllocError → Type 0 = λ r. Writes (or_unsaid r) before after in
    subst Q (sym c.in-Ok.is) (subst P c.deref.ensures.value (c.write_line.result, c.write_line.ensures))

pub returns-in-Err : goal.returns-in-Err
returns-in-Err g c =
    let before = told g.E.Sink.written g.E.Sink.faults g.E.Sink.late c.args.report.now in
    let after = told g.E.Sink.written g.E.Sink.faults g.E.Sink.late c.report_unsaid.new.report in
    let Q : Result (Vec ℕ Global) AllocError → Type 0 = λ r. Writes (or_unsaid r) before after in
    subst Q (sym c.in-Err.is) (c.report_unsaid.result, c.report_unsaid.ensures)
