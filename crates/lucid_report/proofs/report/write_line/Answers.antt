use Rattle.lucid_report.proofs.Common.{◌∙◌, Ok, refl, arith, err_from_is_err_and, Failed, told}
use Rattle.lucid_ports.proofs.FaultLemmas.{none_at_ok}
use Rattle.lucid_report.proofs.Pieces.{more_parts, stops_in_part}
use Rattle.lucid_report.proofs.report.write_line.Goals as goal

pub returns-in_err-write_part : goal.returns-in_err-write_part
returns-in_err-write_part g c =
    let p = err_from_is_err_and c.from_residual.result c.from_residual.ensures.1 in
    let part = c.in_err-write_part.ensures in
    rw (p.1, p.2) (
      stops_in_part (Unit {0}) c.args.parts.now c.loop-part.part-index _ (told g.E.Sink.written g.E.Sink.faults g.E.Sink.late c.args.report.now)
          (told g.E.Sink.written g.E.Sink.faults g.E.Sink.late c.loop-part.report)
          (told g.E.Sink.written g.E.Sink.faults g.E.Sink.late c.write_part.new.report) _ c.loop-part-test.true
          c.loop-part.invariant.written (omega (arith, c.loop-part.invariant.faults)) c.write_part.ensures.count part.line,
      λ good. part.late (c.loop-part.invariant.faults ∙ good) ∙ c.loop-part.invariant.late good,
    )

pub loop-part-preserved : goal.loop-part-preserved
loop-part-preserved g c =
    let part = c.in_ok-write_part.ensures in
    record {
      written = more_parts c.args.parts.now c.loop-part.part-index _ (told g.E.Sink.written g.E.Sink.faults g.E.Sink.late c.args.report.now)
          (told g.E.Sink.written g.E.Sink.faults g.E.Sink.late c.loop-part.report)
          (told g.E.Sink.written g.E.Sink.faults g.E.Sink.late c.write_part.new.report) c.loop-part-test.true
          c.loop-part.invariant.written part.line;
      faults = none_at_ok (Ok c.in_ok-write_part.field-0) c.in_ok-write_part.field-0 Failed _ _ refl part.counts_no_fault ∙ c.loop-part.invariant.faults;
      late = λ good. part.late (c.loop-part.invariant.faults ∙ good) ∙ c.loop-part.invariant.late good;
    }
