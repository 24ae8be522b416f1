use Rattle.lucid_top.proofs.Common.{map, string_bytes, words_asked, told}
use Rattle.lucid_top.specs.Call.{call}
use Rattle.lucid_top.proofs.OneCall.{OneVerdict}
use Rattle.lucid_top.proofs.Meeting.{meets}
use Rattle.lucid_top.proofs.top.outcome_of.Goals as goal

pub returns : goal.returns
returns g c =
    let laws : OneVerdict = record {
      one_tree = c.one_verdict.ensures.one_tree;
      not_refused = c.one_verdict.ensures.not_refused;
      one_text_refusal = c.one_verdict.ensures.one_text_refusal;
      names_not_refused = c.one_verdict.ensures.names_not_refused;
      one_name_refusal = c.one_verdict.ensures.one_name_refusal;
      one_list = c.one_verdict.ensures.one_list;
      one_flat_table = c.one_verdict.ensures.one_flat_table;
      table_not_refused = c.one_verdict.ensures.table_not_refused;
      one_flat_refusal = c.one_verdict.ensures.one_flat_refusal;
      one_certificate = c.one_verdict.ensures.one_certificate;
      certificate_not_refused = c.one_verdict.ensures.certificate_not_refused;
      one_certificate_refusal = c.one_verdict.ensures.one_certificate_refusal;
    } in
    let asked = words_asked (map (string_bytes {Z = Rattle.std.specs.Global.Global}) c.args.words.now) in
    let out_before = told g.K.Sink.written g.K.Sink.faults g.K.Sink.late c.args.out.now in
    let out_after = told g.K.Sink.written g.K.Sink.faults g.K.Sink.late c.do_task.new.out in
    meets laws (call asked (g.P.Places.world c.args.places.now) (g.P.Places.world c.do_task.new.places) out_before out_after) c.do_task.result
    c.do_task.ensures.comes (λ a. c.do_task.ensures.within a.words a.read) (λ a. c.do_task.ensures.certificate a.words a.read)
    c.do_task.ensures.asks c.do_task.ensures.unasked
    (record { reads = c.do_task.ensures.counts_no_read; writes = c.do_task.ensures.counts_no_write })
    (record { reads = c.do_task.ensures.read_late; writes = c.do_task.ensures.write_late })
