use Rattle.std.proofs.Common.{map}
use Rattle.std.specs.Prelude.{option_map}
use Rattle.std.specs.String.{string_bytes}
use Rattle.std.proofs.lemmas.Result.{IfOk-weaker}
use Rattle.lucid_ports.specs.MemoryView.{memory_world}
use Rattle.lucid_ports.specs.Sink.{sink_bytes, sink_faults, sink_late}
use Rattle.lucid_explain_command.specs.Errors.{in_memory, Finds, Calls}
use Rattle.lucid_explain_command.proofs.Explaining.{begun_empty}
use Rattle.lucid_explain_command.proofs.Making.{out_empty}
use Rattle.lucid_explain_command.proofs.certified.call_over.Goals as goal

pub returns : goal.returns
returns c =
    let out = c.lucid-status.new.out in
    let report = c.lucid-status.new.report in
    let ended = c.lucid-status.result in
    IfOk-weaker c.found_by.result (λ found. Finds ended (sink_bytes out) (option_map (λ bytes. bytes.items) found))
    (λ found. Calls (map string_bytes c.args.words.now) c.args.files.items (option_map (λ bytes. bytes.items) found))
    (λ found finds. record {
      before = memory_world c.make-places.result;
      after = memory_world c.lucid-status.new.places;
      written = sink_bytes out;
      faults = sink_faults out;
      late = sink_late out;
      report_after = in_memory (sink_bytes report) (sink_faults report) (sink_late report);
      ended = ended;
      fresh = c.make-places.ensures.none;
      held = c.make-places.ensures.names;
      clauses = out_empty _ _ _ (sink_bytes c.make-out.result) (sink_faults c.make-out.result) (sink_late c.make-out.result) _ _ _ _
          c.make-out.ensures.bytes c.make-out.ensures.faults c.make-out.ensures.late
          (begun_empty _ (sink_bytes c.make-report.result) (sink_faults c.make-report.result) (sink_late c.make-report.result) _ _
          c.make-report.ensures.bytes c.make-report.ensures.faults c.make-report.ensures.late c.lucid-status.ensures);
      finds = finds;
    }) c.found_by.ensures
