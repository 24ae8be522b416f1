use Rattle.lucid_report.proofs.Common.{◌≡◌, told, line_of, WritesWhole}
use Rattle.std.proofs.Common.{take}
use Rattle.lucid_ports.specs.Told.{WritesNoneLate}
use Rattle.lucid_report.proofs.report.write_line.Given as goal

abbrev pub invariant-loop-part : goal.invariant-loop-part
invariant-loop-part g l = record {
  written : WritesWhole (line_of (take l.part-index l.parts)) (told g.E.Sink.written g.E.Sink.faults g.E.Sink.late l.initial.report)
      (told g.E.Sink.written g.E.Sink.faults g.E.Sink.late l.report);
  faults : g.E.Sink.faults l.report ≡ g.E.Sink.faults l.initial.report;
  late : WritesNoneLate (told g.E.Sink.written g.E.Sink.faults g.E.Sink.late l.initial.report) (told g.E.Sink.written g.E.Sink.faults g.E.Sink.late l.report);
}
