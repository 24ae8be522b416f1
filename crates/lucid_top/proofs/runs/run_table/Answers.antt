use Rattle.lucid_top.proofs.Common.{inl, ◌+◌, Some, refl, ap, subst, ◌∙◌, length, arith, err_from_is_err_and, table_of, plain_words, told, most_flat_bytes, Call, RanSo, by_table}
use Rattle.lucid_session.specs.Runs.{policy_view}
use Rattle.lucid_top.specs.Call.{call_under}
use Rattle.lucid_top.proofs.Ending.{Begins, within_flat, flat_stops, flat_of, first_place_le}
use Rattle.lucid_top.proofs.Doing.{stops, memory_does, run_does}
use Rattle.lucid_top.proofs.Carrying.{one_table}
use Rattle.lucid_top.proofs.Doing.{asks_behind}
use Rattle.lucid_top.specs.Names.{certificate_names}
use Rattle.lucid_top.proofs.runs.run_table.Goals as goal

pub returns-in_err-program : goal.returns-in_err-program
returns-in_err-program g c =
    let p = err_from_is_err_and c.from_residual.result c.from_residual.ensures.1 in
    let w = plain_words c.args.terms.words.now in
    let here : Call = call_under (policy_view g.R.Retire.keeps g.R.Retire.empties g.R.Retire.most c.args.terms.choices.policy) (Some w) (g.P.Places.world c.args.places.now) (g.P.Places.world c.flat_program.new.places)
    (told g.K.Sink.written g.K.Sink.faults g.K.Sink.late c.args.out.now) (told g.K.Sink.written g.K.Sink.faults g.K.Sink.late c.args.out.now) in
    let begins : Begins here w = refl in
    let read = c.in_err-program.ensures in
    let s = c.in_err-program.field-0.0 in
    rw (p.1, p.2) (stops here w s refl refl read.reading.few read.reading.asks (flat_stops here w s begins c.requires.form read.stopped refl read.reading.few)
    read.reading.counts_no_read read.reading.late (within_flat w w.source here.after c.requires.form read.reading.within))

pub returns-in_err-names : goal.returns-in_err-names
returns-in_err-names g c =
    let p = err_from_is_err_and c.from_residual-in_err-names.result c.from_residual-in_err-names.ensures.1 in
    let w = plain_words c.args.terms.words.now in
    let here : Call = call_under (policy_view g.R.Retire.keeps g.R.Retire.empties g.R.Retire.most c.args.terms.choices.policy) (Some w) (g.P.Places.world c.args.places.now) (g.P.Places.world c.flat_program.new.places)
    (told g.K.Sink.written g.K.Sink.faults g.K.Sink.late c.args.out.now) (told g.K.Sink.written g.K.Sink.faults g.K.Sink.late c.args.out.now) in
    let begins : Begins here w = refl in
    let read = c.in_ok-program.ensures in
    rw (p.1, p.2) (memory_does c.in_ok-program.program (most_flat_bytes + 1) here w begins refl read.reading
    (within_flat w w.source here.after c.requires.form read.reading.within))

pub run_inputs-requires-clause-few : goal.run_inputs-requires-clause-few
run_inputs-requires-clause-few g c =
    let names = c.in_ok-program.ensures.spelt.spelt.sound.root.few in
    let same = ap length (c.deref.ensures.value ∙ c.in_ok-names.ensures ∙ c.items.ensures ∙ ap (λ t. t.inputs) c.table.ensures.value) in
    omega (arith, names, same)

pub run_inputs-requires-clause-one : goal.run_inputs-requires-clause-one
run_inputs-requires-clause-one g c =
    let one = first_place_le (plain_words c.args.terms.words.now).source in
    omega (arith, one, c.in_ok-program.ensures.reading.few)

pub returns : goal.returns
returns g c =
    let w = plain_words c.args.terms.words.now in
    let here : Call = call_under (policy_view g.R.Retire.keeps g.R.Retire.empties g.R.Retire.most c.args.terms.choices.policy) (Some w) (g.P.Places.world c.args.places.now) (g.P.Places.world c.run_inputs.new.places)
    (told g.K.Sink.written g.K.Sink.faults g.K.Sink.late c.args.out.now) (told g.K.Sink.written g.K.Sink.faults g.K.Sink.late c.run_inputs.new.out) in
    let begins : Begins here w = refl in
    let read = c.in_ok-program.ensures in
    let table = table_of c.in_ok-program.program in
    run_does c.in_ok-program.program here w (g.P.Places.world c.flat_program.new.places) c.run_inputs.result refl (λ e. absurd (cc (e, c.requires.may.task)))
    (c.run_inputs.ensures.comes here.before (record {
      read = refl;
      task = c.requires.may.task;
      program = by_table (flat_of here w table begins c.requires.form read.spelt);
      made = tt;
      inputs = refl;
      runs = λ r o h. subst (λ p. RanSo p r o) (one_table w table c.requires.may.task) h;
      kept = read.reading.keeps;
      first = read.reading.reached;
    }))
    read.reading.counts_no_read c.run_inputs.ensures.counts_no_read c.run_inputs.ensures.counts_no_write
    read.reading.late c.run_inputs.ensures.read_late c.run_inputs.ensures.write_late
    (asks_behind here w (g.P.Places.world c.flat_program.new.places) (by_table (flat_of here w table begins c.requires.form read.spelt)) table.inputs tt (inl c.requires.may.task) refl
    (ap (λ t. certificate_names t w.check) c.requires.may.task) read.reading.asked c.run_inputs.ensures.asks)
    (within_flat w w.source here.after c.requires.form (c.run_inputs.ensures.within (most_flat_bytes + 1) read.reading.reached read.reading.within))
