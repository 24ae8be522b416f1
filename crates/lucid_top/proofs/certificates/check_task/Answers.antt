use Rattle.lucid_top.proofs.Common.{inr, by_tree, is_certificate, ◌+◌, Some, refl, sym, ap, ◌∙◌, length, arith, err_from_is_err_and, table_of, most_source_bytes, scoped_tree, scoped_inputs, scoped_binding, plain_words, told, Call}
use Rattle.lucid_top.specs.Call.{call_under}
use Rattle.lucid_top.proofs.Ending.{Begins, within_text, check_not_print, inputs_of, names_of, first_place_le}
use Rattle.lucid_top.proofs.Doing.{program_does, memory_does, check_does}
use Rattle.lucid_top.proofs.RunEnds.{source_stays}
use Rattle.lucid_top.proofs.TreeTables.{has_table}
use Rattle.lucid_top.proofs.Doing.{asks_check}
use Rattle.lucid_top.proofs.certificates.check_task.Goals as goal

pub returns-in_err-scoped : goal.returns-in_err-scoped
returns-in_err-scoped g c policy =
    let p = err_from_is_err_and c.from_residual.result c.from_residual.ensures.1 in
    let w = plain_words c.args.words.now in
    let here : Call = call_under policy (Some w) (g.P.Places.world c.args.places.now) (g.P.Places.world c.program_of.new.places)
    (told g.K.Sink.written g.K.Sink.faults g.K.Sink.late c.args.out.now) (told g.K.Sink.written g.K.Sink.faults g.K.Sink.late c.args.out.now) in
    let begins : Begins here w = refl in
    let read = c.in_err-scoped.ensures in
    rw (p.1, p.2) (program_does here w c.in_err-scoped.field-0.0 begins (c.requires.may.text (λ e. absurd (cc e))) (check_not_print w c.requires.may.task) refl
    read.stopped read.reading)

pub returns-in_err-program : goal.returns-in_err-program
returns-in_err-program g c policy =
    let p = err_from_is_err_and c.from_residual-in_err-program.result c.from_residual-in_err-program.ensures.1 in
    let w = plain_words c.args.words.now in
    let here : Call = call_under policy (Some w) (g.P.Places.world c.args.places.now) (g.P.Places.world c.program_of.new.places)
    (told g.K.Sink.written g.K.Sink.faults g.K.Sink.late c.args.out.now) (told g.K.Sink.written g.K.Sink.faults g.K.Sink.late c.args.out.now) in
    let begins : Begins here w = refl in
    let read = c.in_ok-scoped.ensures in
    rw (p.1, p.2) (memory_does c.in_ok-scoped.scoped (most_source_bytes + 1) here w begins refl read.reading
    (within_text w w.source here.after (c.requires.may.text (λ e. absurd (cc e))) read.reading.within))

pub check_inputs-requires-clause-names : goal.check_inputs-requires-clause-names
check_inputs-requires-clause-names g c = c.inputs.ensures.value ∙ sym c.in_ok-program.ensures.inputs

pub check_inputs-requires-clause-few : goal.check_inputs-requires-clause-few
check_inputs-requires-clause-few g c =
    let same = ap length c.inputs.ensures.value in
    omega (arith, same, c.inputs.ensures.few, c.in_ok-scoped.ensures.accepted.few)

pub check_inputs-requires-clause-one : goal.check_inputs-requires-clause-one
check_inputs-requires-clause-one g c =
    let one = first_place_le (plain_words c.args.words.now).source in
    omega (arith, one, c.in_ok-scoped.ensures.reading.few)

pub returns : goal.returns
returns g c policy =
    let w = plain_words c.args.words.now in
    let here : Call = call_under policy (Some w) (g.P.Places.world c.args.places.now) (g.P.Places.world c.check_inputs.new.places)
    (told g.K.Sink.written g.K.Sink.faults g.K.Sink.late c.args.out.now) (told g.K.Sink.written g.K.Sink.faults g.K.Sink.late c.check_inputs.new.out) in
    let begins : Begins here w = refl in
    let text = c.requires.may.text (λ e. absurd (cc e)) in
    let read = c.in_ok-scoped.ensures in
    let table = table_of c.in_ok-program.program in
    let tree = scoped_tree c.in_ok-scoped.scoped in
    let inputs = inputs_of tree (scoped_inputs c.in_ok-scoped.scoped) (scoped_binding c.in_ok-scoped.scoped) c.inputs.ensures.resolved in
    let few = c.inputs.ensures.few in
    let short = read.accepted.few in
    let made = c.in_ok-program.ensures in
    check_does c.in_ok-scoped.scoped here w (g.P.Places.world c.program_of.new.places) c.check_inputs.result refl
    (c.check_inputs.ensures.comes policy here.before (record {
      read = refl;
      names = names_of here w tree (scoped_inputs c.in_ok-scoped.scoped) begins text (check_not_print w c.requires.may.task) read.accepted inputs;
      task = c.requires.may.task;
      made = read.accepted.well_made;
      is = made.exact;
      table = has_table tree (scoped_inputs c.in_ok-scoped.scoped) table made.exact (made.sound (omega (arith, few, short))) made.keeps made.means;
      kept = read.reading.keeps;
      first = read.reading.reached;
    }))
    read.reading.counts_no_read c.check_inputs.ensures.counts_no_read c.check_inputs.ensures.counts_no_write
    read.reading.late c.check_inputs.ensures.read_late c.check_inputs.ensures.write_late
    (asks_check here w (g.P.Places.world c.program_of.new.places)
    (by_tree (names_of here w tree (scoped_inputs c.in_ok-scoped.scoped) begins text (check_not_print w c.requires.may.task) read.accepted inputs))
    (table_of c.in_ok-program.program).inputs read.accepted.well_made (inr (ap is_certificate c.requires.may.task)) (sym c.in_ok-program.ensures.inputs)
    c.requires.may.task read.reading.asked c.check_inputs.ensures.asks)
    (within_text w w.source here.after text (source_stays (most_source_bytes + 1) w.source (g.P.Places.world c.program_of.new.places) here.after
    read.reading.within read.reading.reached c.check_inputs.ensures.others))
    read.reading.reached c.check_inputs.ensures.certificate
