use Rattle.lucid_explain_command.proofs.Common.{Result, subst, told}
use Rattle.lucid_ports.specs.declared.fault.PortFault.{PortFault}
use Rattle.lucid_report.specs.Lines.{outcome_line}
use Rattle.lucid_report.specs.Telling.{ReportsLine}
use Rattle.lucid_explain_command.specs.Explained.{cut_off, whole}
use Rattle.lucid_explain_command.proofs.command.report_call.Goals as goal

pub returns-in-Ok : goal.returns-in-Ok
returns-in-Ok g c =
    let before = told g.E.Sink.written g.E.Sink.faults g.E.Sink.late c.args.report.now in
    let between = told g.E.Sink.written g.E.Sink.faults g.E.Sink.late c.write_outcome.new.report in
    let P : Result (Unit {0}) PortFault → Type 0 = λ r. ReportsLine (outcome_line c.args.outcome.now) r before between in
    let line = subst P c.in-Ok.is c.write_outcome.ensures in
    whole between line.0 c.report_cause.ensures c.of.ensures

pub returns-in-Err : goal.returns-in-Err
returns-in-Err g c =
    let before = told g.E.Sink.written g.E.Sink.faults g.E.Sink.late c.args.report.now in
    let between = told g.E.Sink.written g.E.Sink.faults g.E.Sink.late c.write_outcome.new.report in
    let P : Result (Unit {0}) PortFault → Type 0 = λ r. ReportsLine (outcome_line c.args.outcome.now) r before between in
    let line = subst P c.in-Err.is c.write_outcome.ensures in
    cut_off c.in-Err.fault line.0 c.cut_status.ensures
