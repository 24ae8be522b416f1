use Rattle.lucid_top.proofs.Common.{inl, ◌+◌, Some, refl, sym, ap, subst, ◌∙◌, length, arith, err_from_is_err_and, table_of, most_source_bytes, scoped_tree, scoped_inputs, scoped_binding, plain_words, told, Call, RanSo, by_tree}
use Rattle.lucid_session.specs.Runs.{policy_view}
use Rattle.lucid_top.specs.Call.{call_under}
use Rattle.lucid_top.proofs.Ending.{Begins, within_text, run_not_print, inputs_of, names_of, first_place_le}
use Rattle.lucid_top.proofs.Doing.{program_does, memory_does, run_does}
use Rattle.lucid_top.proofs.Carrying.{runs_tree, one_table}
use Rattle.lucid_top.proofs.Doing.{asks_behind}
use Rattle.lucid_top.specs.Names.{certificate_names}
use Rattle.lucid_top.proofs.runs.run_tree.Goals as goal

pub returns-in_err-scoped : goal.returns-in_err-scoped
returns-in_err-scoped g c =
    let p = err_from_is_err_and c.from_residual.result c.from_residual.ensures.1 in
    let w = plain_words c.args.terms.words.now in
    let here : Call = call_under (policy_view g.R.Retire.keeps g.R.Retire.empties g.R.Retire.most c.args.terms.choices.policy) (Some w) (g.P.Places.world c.args.places.now) (g.P.Places.world c.program_of.new.places)
    (told g.K.Sink.written g.K.Sink.faults g.K.Sink.late c.args.out.now) (told g.K.Sink.written g.K.Sink.faults g.K.Sink.late c.args.out.now) in
    let begins : Begins here w = refl in
    let read = c.in_err-scoped.ensures in
    rw (p.1, p.2) (program_does here w c.in_err-scoped.field-0.0 begins c.requires.form (run_not_print w c.requires.may.task) refl read.stopped read.reading)

pub returns-in_err-program : goal.returns-in_err-program
returns-in_err-program g c =
    let p = err_from_is_err_and c.from_residual-in_err-program.result c.from_residual-in_err-program.ensures.1 in
    let w = plain_words c.args.terms.words.now in
    let here : Call = call_under (policy_view g.R.Retire.keeps g.R.Retire.empties g.R.Retire.most c.args.terms.choices.policy) (Some w) (g.P.Places.world c.args.places.now) (g.P.Places.world c.program_of.new.places)
    (told g.K.Sink.written g.K.Sink.faults g.K.Sink.late c.args.out.now) (told g.K.Sink.written g.K.Sink.faults g.K.Sink.late c.args.out.now) in
    let begins : Begins here w = refl in
    let read = c.in_ok-scoped.ensures in
    rw (p.1, p.2) (memory_does c.in_ok-scoped.scoped (most_source_bytes + 1) here w begins refl read.reading
    (within_text w w.source here.after c.requires.form read.reading.within))

pub run_inputs-requires-clause-names : goal.run_inputs-requires-clause-names
run_inputs-requires-clause-names g c = c.inputs.ensures.value ∙ sym c.in_ok-program.ensures.inputs

pub run_inputs-requires-clause-few : goal.run_inputs-requires-clause-few
run_inputs-requires-clause-few g c =
    let same = ap length c.inputs.ensures.value in
    omega (arith, same, c.inputs.ensures.few, c.in_ok-scoped.ensures.accepted.few)

pub run_inputs-requires-clause-one : goal.run_inputs-requires-clause-one
run_inputs-requires-clause-one g c =
    let one = first_place_le (plain_words c.args.terms.words.now).source in
    omega (arith, one, c.in_ok-scoped.ensures.reading.few)

pub returns : goal.returns
returns g c =
    let w = plain_words c.args.terms.words.now in
    let here : Call = call_under (policy_view g.R.Retire.keeps g.R.Retire.empties g.R.Retire.most c.args.terms.choices.policy) (Some w) (g.P.Places.world c.args.places.now) (g.P.Places.world c.run_inputs.new.places)
    (told g.K.Sink.written g.K.Sink.faults g.K.Sink.late c.args.out.now) (told g.K.Sink.written g.K.Sink.faults g.K.Sink.late c.run_inputs.new.out) in
    let begins : Begins here w = refl in
    let read = c.in_ok-scoped.ensures in
    let table = table_of c.in_ok-program.program in
    let tree = scoped_tree c.in_ok-scoped.scoped in
    let inputs = inputs_of tree (scoped_inputs c.in_ok-scoped.scoped) (scoped_binding c.in_ok-scoped.scoped) c.inputs.ensures.resolved in
    run_does c.in_ok-scoped.scoped here w (g.P.Places.world c.program_of.new.places) c.run_inputs.result refl (λ e. absurd (cc (e, c.requires.may.task)))
    (c.run_inputs.ensures.comes here.before (record {
      read = refl;
      task = c.requires.may.task;
      program = by_tree (names_of here w tree (scoped_inputs c.in_ok-scoped.scoped) begins c.requires.form (run_not_print w c.requires.may.task) read.accepted
          inputs);
      made = read.accepted.well_made;
      inputs = sym c.in_ok-program.ensures.inputs;
      runs = λ r o h. runs_tree c.same_streams_run_alike.ensures c.figures_carry.ensures table tree c.in_ok-program.ensures.keeps r o
          (subst (λ p. RanSo p r o) (one_table w table c.requires.may.task) h);
      kept = read.reading.keeps;
      first = read.reading.reached;
    }))
    read.reading.counts_no_read c.run_inputs.ensures.counts_no_read c.run_inputs.ensures.counts_no_write
    read.reading.late c.run_inputs.ensures.read_late c.run_inputs.ensures.write_late
    (asks_behind here w (g.P.Places.world c.program_of.new.places) (by_tree (names_of here w tree (scoped_inputs c.in_ok-scoped.scoped) begins c.requires.form (run_not_print w c.requires.may.task) read.accepted inputs)) table.inputs read.accepted.well_made (inl c.requires.may.task) (sym c.in_ok-program.ensures.inputs)
    (ap (λ t. certificate_names t w.check) c.requires.may.task) read.reading.asked c.run_inputs.ensures.asks)
    (within_text w w.source here.after c.requires.form (c.run_inputs.ensures.within (most_source_bytes + 1) read.reading.reached read.reading.within))
