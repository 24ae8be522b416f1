use Rattle.lucid_top.proofs.Common.{inr, by_tree, is_certificate, ◌+◌, Some, Ok, subst, refl, sym, ap, ◌∙◌, length, arith, err_from_is_err_and, table_of, most_source_bytes, scoped_tree, scoped_inputs, scoped_binding, plain_words, told, Call}
use Rattle.lucid_top.specs.Call.{call_under}
use Rattle.lucid_top.specs.Coming.{Does}
use Rattle.lucid_top.proofs.Ending.{Begins, within_text, why_not_print, inputs_of, names_of, first_place_le}
use Rattle.lucid_top.proofs.Doing.{program_does, memory_does, run_does}
use Rattle.lucid_top.proofs.RunEnds.{source_stays}
use Rattle.lucid_top.proofs.TreeTables.{has_table}
use Rattle.lucid_top.proofs.Doing.{asks_behind}
use Rattle.lucid_top.specs.Names.{certificate_names}
use Rattle.lucid_top.proofs.Answering.{time_within}
use Rattle.lucid_top.proofs.certificates.make_at.Goals as goal

pub returns-in_err-scoped-clause-does : goal.returns-in_err-scoped-clause-does
returns-in_err-scoped-clause-does g c policy =
    let p = err_from_is_err_and c.from_residual.result c.from_residual.ensures.1 in
    let w = plain_words c.args.words.now in
    let here : Call = call_under policy (Some w) (g.P.Places.world c.args.places.now) (g.P.Places.world c.program_of.new.places)
    (told g.K.Sink.written g.K.Sink.faults g.K.Sink.late c.args.out.now) (told g.K.Sink.written g.K.Sink.faults g.K.Sink.late c.args.out.now) in
    let begins : Begins here w = refl in
    let read = c.in_err-scoped.ensures in
    rw (p.1, p.2) (program_does here w c.in_err-scoped.field-0.0 begins (c.requires.may.text (λ e. absurd (cc e))) (why_not_print w c.requires.may.task) refl
    read.stopped read.reading)

pub returns-in_err-program-clause-does : goal.returns-in_err-program-clause-does
returns-in_err-program-clause-does g c policy =
    let p = err_from_is_err_and c.from_residual-in_err-program.result c.from_residual-in_err-program.ensures.1 in
    let w = plain_words c.args.words.now in
    let here : Call = call_under policy (Some w) (g.P.Places.world c.args.places.now) (g.P.Places.world c.program_of.new.places)
    (told g.K.Sink.written g.K.Sink.faults g.K.Sink.late c.args.out.now) (told g.K.Sink.written g.K.Sink.faults g.K.Sink.late c.args.out.now) in
    let begins : Begins here w = refl in
    let read = c.in_ok-scoped.ensures in
    rw (p.1, p.2) (memory_does c.in_ok-scoped.scoped (most_source_bytes + 1) here w begins refl read.reading
    (within_text w w.source here.after (c.requires.may.text (λ e. absurd (cc e))) read.reading.within))

pub make_inputs-requires-clause-within : goal.make_inputs-requires-clause-within
make_inputs-requires-clause-within g c = time_within c.args.words.now.why c.args.time c.requires.may.time c.requires.time

pub make_inputs-requires-clause-names : goal.make_inputs-requires-clause-names
make_inputs-requires-clause-names g c = c.inputs.ensures.value ∙ sym c.in_ok-program.ensures.inputs

pub make_inputs-requires-clause-few : goal.make_inputs-requires-clause-few
make_inputs-requires-clause-few g c =
    let same = ap length c.inputs.ensures.value in
    omega (arith, same, c.inputs.ensures.few, c.in_ok-scoped.ensures.accepted.few)

pub make_inputs-requires-clause-one : goal.make_inputs-requires-clause-one
make_inputs-requires-clause-one g c =
    let one = first_place_le (plain_words c.args.words.now).source in
    omega (arith, one, c.in_ok-scoped.ensures.reading.few)

pub returns-clause-does : goal.returns-clause-does
returns-clause-does g c policy =
    let w = plain_words c.args.words.now in
    let here : Call = call_under policy (Some w) (g.P.Places.world c.args.places.now) (g.P.Places.world c.make_inputs.new.places)
    (told g.K.Sink.written g.K.Sink.faults g.K.Sink.late c.args.out.now) (told g.K.Sink.written g.K.Sink.faults g.K.Sink.late c.make_inputs.new.out) in
    let begins : Begins here w = refl in
    let text = c.requires.may.text (λ e. absurd (cc e)) in
    let read = c.in_ok-scoped.ensures in
    let table = table_of c.in_ok-program.program in
    let tree = scoped_tree c.in_ok-scoped.scoped in
    let inputs = inputs_of tree (scoped_inputs c.in_ok-scoped.scoped) (scoped_binding c.in_ok-scoped.scoped) c.inputs.ensures.resolved in
    let few = c.inputs.ensures.few in
    let short = read.accepted.few in
    let made = c.in_ok-program.ensures in
    let does : Does here c.make_inputs.result = run_does c.in_ok-scoped.scoped here w (g.P.Places.world c.program_of.new.places) c.make_inputs.result refl (λ e. absurd (cc (e, c.requires.may.task)))
    (c.make_inputs.ensures.comes policy here.before (record {
      read = refl;
      names = names_of here w tree (scoped_inputs c.in_ok-scoped.scoped) begins text (why_not_print w c.requires.may.task) read.accepted inputs;
      task = c.requires.may.task;
      made = read.accepted.well_made;
      is = made.exact;
      table = has_table tree (scoped_inputs c.in_ok-scoped.scoped) table made.exact (made.sound (omega (arith, few, short))) made.keeps made.means;
      kept = read.reading.keeps;
      first = read.reading.reached;
    }))
    read.reading.counts_no_read c.make_inputs.ensures.counts_no_read c.make_inputs.ensures.counts_no_write
    read.reading.late c.make_inputs.ensures.read_late c.make_inputs.ensures.write_late
    (asks_behind here w (g.P.Places.world c.program_of.new.places)
    (by_tree (names_of here w tree (scoped_inputs c.in_ok-scoped.scoped) begins text (why_not_print w c.requires.may.task) read.accepted inputs))
    (table_of c.in_ok-program.program).inputs read.accepted.well_made (inr (ap is_certificate c.requires.may.task)) (sym c.in_ok-program.ensures.inputs)
    (ap (λ t. certificate_names t w.check) c.requires.may.task) read.reading.asked c.make_inputs.ensures.asks)
    (within_text w w.source here.after text (source_stays (most_source_bytes + 1) w.source (g.P.Places.world c.program_of.new.places) here.after
    read.reading.within read.reading.reached c.make_inputs.ensures.others)) in
    subst (Does here) (c.in_ok-make_inputs.was ∙ ap Ok c.in_ok-make_inputs.ensures.written) does

pub returns-in_err-make_inputs-clause-does : goal.returns-in_err-make_inputs-clause-does
returns-in_err-make_inputs-clause-does g c policy =
    let w = plain_words c.args.words.now in
    let here : Call = call_under policy (Some w) (g.P.Places.world c.args.places.now) (g.P.Places.world c.make_inputs.new.places)
    (told g.K.Sink.written g.K.Sink.faults g.K.Sink.late c.args.out.now) (told g.K.Sink.written g.K.Sink.faults g.K.Sink.late c.make_inputs.new.out) in
    let begins : Begins here w = refl in
    let text = c.requires.may.text (λ e. absurd (cc e)) in
    let read = c.in_ok-scoped.ensures in
    let table = table_of c.in_ok-program.program in
    let tree = scoped_tree c.in_ok-scoped.scoped in
    let inputs = inputs_of tree (scoped_inputs c.in_ok-scoped.scoped) (scoped_binding c.in_ok-scoped.scoped) c.inputs.ensures.resolved in
    let few = c.inputs.ensures.few in
    let short = read.accepted.few in
    let made = c.in_ok-program.ensures in
    let p = err_from_is_err_and c.from_residual-in_err-make_inputs.result c.from_residual-in_err-make_inputs.ensures.1 in
    let does : Does here c.make_inputs.result = run_does c.in_ok-scoped.scoped here w (g.P.Places.world c.program_of.new.places) c.make_inputs.result refl (λ e. absurd (cc (e, c.requires.may.task)))
    (c.make_inputs.ensures.comes policy here.before (record {
      read = refl;
      names = names_of here w tree (scoped_inputs c.in_ok-scoped.scoped) begins text (why_not_print w c.requires.may.task) read.accepted inputs;
      task = c.requires.may.task;
      made = read.accepted.well_made;
      is = made.exact;
      table = has_table tree (scoped_inputs c.in_ok-scoped.scoped) table made.exact (made.sound (omega (arith, few, short))) made.keeps made.means;
      kept = read.reading.keeps;
      first = read.reading.reached;
    }))
    read.reading.counts_no_read c.make_inputs.ensures.counts_no_read c.make_inputs.ensures.counts_no_write
    read.reading.late c.make_inputs.ensures.read_late c.make_inputs.ensures.write_late
    (asks_behind here w (g.P.Places.world c.program_of.new.places)
    (by_tree (names_of here w tree (scoped_inputs c.in_ok-scoped.scoped) begins text (why_not_print w c.requires.may.task) read.accepted inputs))
    (table_of c.in_ok-program.program).inputs read.accepted.well_made (inr (ap is_certificate c.requires.may.task)) (sym c.in_ok-program.ensures.inputs)
    (ap (λ t. certificate_names t w.check) c.requires.may.task) read.reading.asked c.make_inputs.ensures.asks)
    (within_text w w.source here.after text (source_stays (most_source_bytes + 1) w.source (g.P.Places.world c.program_of.new.places) here.after
    read.reading.within read.reading.reached c.make_inputs.ensures.others)) in
    rw (p.1, p.2) (subst (Does here) c.in_err-make_inputs.was does)

pub returns-clause-program : goal.returns-clause-program
returns-clause-program g c =
    record { accepted = c.in_ok-scoped.ensures.accepted; resolved = c.in_ok-scoped.ensures.resolved; table = c.in_ok-program.ensures.exact }
