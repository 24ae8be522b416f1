use Rattle.lucid_top.proofs.Common.{◌≡◌, Some, refl, inr, err_from_is_err_and, scoped_tree, scoped_inputs, scoped_binding, plain_words, told, Call, judges, IsTextFor}
use Rattle.lucid_cycles.specs.JudgmentLine.{judgment_line}
use Rattle.lucid_report.specs.declared.stop.Stop.TheVariants as stop
use Rattle.lucid_top.specs.Call.{call_under}
use Rattle.lucid_top.proofs.Counting.{none_at_ok}
use Rattle.lucid_top.proofs.Ending.{Begins, within_text, cycles_not_print, judging_stops, inputs_of, names_of, as_text}
use Rattle.lucid_top.proofs.Doing.{reads_for, program_does, writing_does, unread_certificate, asks_too, not_none}
use Rattle.lucid_top.specs.Coming.{asks_source}
use Rattle.lucid_top.proofs.writing.cycles_task.Goals as goal

pub returns-in_err-scoped : goal.returns-in_err-scoped
returns-in_err-scoped g c policy =
    let p = err_from_is_err_and c.from_residual.result c.from_residual.ensures.1 in
    let w = plain_words c.args.words.now in
    let here : Call = call_under policy (Some w) (g.P.Places.world c.args.places.now) (g.P.Places.world c.program_of.new.places)
    (told g.K.Sink.written g.K.Sink.faults g.K.Sink.late c.args.out.now) (told g.K.Sink.written g.K.Sink.faults g.K.Sink.late c.args.out.now) in
    let begins : Begins here w = refl in
    let read = c.in_err-scoped.ensures in
    rw (p.1, p.2) (program_does here w c.in_err-scoped.field-0.0 begins (c.requires.text (λ e. absurd (cc e))) (cycles_not_print w c.requires.task) refl
    read.stopped read.reading)

pub returns-in_err-judgment : goal.returns-in_err-judgment
returns-in_err-judgment g c policy =
    let p = err_from_is_err_and c.from_residual-in_err-judgment.result c.from_residual-in_err-judgment.ensures.1 in
    let w = plain_words c.args.words.now in
    let here : Call = call_under policy (Some w) (g.P.Places.world c.args.places.now) (g.P.Places.world c.program_of.new.places)
    (told g.K.Sink.written g.K.Sink.faults g.K.Sink.late c.args.out.now) (told g.K.Sink.written g.K.Sink.faults g.K.Sink.late c.args.out.now) in
    let begins : Begins here w = refl in
    let text = c.requires.text (λ e. absurd (cc e)) in
    let read = c.in_ok-scoped.ensures in
    let tree = scoped_tree c.in_ok-scoped.scoped in
    let inputs = inputs_of tree (scoped_inputs c.in_ok-scoped.scoped) (scoped_binding c.in_ok-scoped.scoped) read.resolved.resolved in
    rw (p.1, p.2) (record {
      comes = judging_stops here w tree (scoped_inputs c.in_ok-scoped.scoped) c.in_err-judgment.field-0.0 begins text c.requires.task read.accepted inputs
          c.in_err-judgment.ensures.refusal refl read.reading.few;
      counts_no_read = inr (none_at_ok c.in_ok-scoped.scoped stop.ReadFault here.before.faults here.after.faults read.reading.counts_no_read);
      counts_no_write = inr refl;
      read_late = read.reading.late;
      write_late = λ good. refl;
      within = reads_for here w refl (within_text w w.source here.after text read.reading.within);
      certificate = unread_certificate here w refl read.reading.few;
      asks = asks_too here w refl (asks_source read.reading.asks);
      unasked = not_none here w refl;
    })

pub returns : goal.returns
returns g c policy =
    let w = plain_words c.args.words.now in
    let here : Call = call_under policy (Some w) (g.P.Places.world c.args.places.now) (g.P.Places.world c.program_of.new.places)
    (told g.K.Sink.written g.K.Sink.faults g.K.Sink.late c.args.out.now) (told g.K.Sink.written g.K.Sink.faults g.K.Sink.late c.write_judgment.new.out) in
    let begins : Begins here w = refl in
    let text = c.requires.text (λ e. absurd (cc e)) in
    let read = c.in_ok-scoped.ensures in
    let tree = scoped_tree c.in_ok-scoped.scoped in
    let inputs = inputs_of tree (scoped_inputs c.in_ok-scoped.scoped) (scoped_binding c.in_ok-scoped.scoped) read.resolved.resolved in
    let names = names_of here w tree (scoped_inputs c.in_ok-scoped.scoped) begins text (cycles_not_print w c.requires.task) read.accepted inputs in
    let x = judges names c.requires.task c.in_ok-judgment.ensures.judged in
    writing_does c.in_ok-scoped.scoped here w x c.write_judgment.result begins text read.reading
    (as_text (λ line. line ≡ judgment_line tree c.in_ok-judgment.judgment) (IsTextFor x) here.out_before here.out_after c.write_judgment.result
    (λ line is. record {
      inputs = scoped_inputs c.in_ok-scoped.scoped;
      bindings = scoped_binding c.in_ok-scoped.scoped;
      resolved = read.resolved.resolved;
      judgment = c.in_ok-judgment.judgment;
      judged = c.in_ok-judgment.ensures.judgment;
      enough = c.in_ok-judgment.ensures.depth;
      is = is;
    })
    c.write_judgment.ensures.writes)
    c.write_judgment.ensures.counts_no_write c.write_judgment.ensures.late
