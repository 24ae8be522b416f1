use Rattle.lucid_top.proofs.Common.{inl, ◌+◌, Some, refl, sym, ap, subst, ◌∙◌, length, arith, err_from_is_err_and, IsWellMade, table_of, equations_of, KeepsTree, most_source_bytes, scoped_tree, scoped_inputs, scoped_binding, plain_words, told, Call, beside, RanSo, by_columns}
use Rattle.lucid_session.specs.Runs.{policy_view}
use Rattle.lucid_top.specs.Call.{call_under}
use Rattle.lucid_top.proofs.Ending.{Begins, within_text, columns_stops, inputs_of, columns_of, first_place_le}
use Rattle.lucid_top.proofs.Doing.{stops, memory_does, run_does}
use Rattle.lucid_top.proofs.Carrying.{runs_columns, spaces_of_table}
use Rattle.lucid_top.proofs.Doing.{asks_behind}
use Rattle.lucid_top.specs.Names.{certificate_names}
use Rattle.lucid_top.proofs.runs.columns_task.Goals as goal

pub returns-in_err-scoped : goal.returns-in_err-scoped
returns-in_err-scoped g c =
    let p = err_from_is_err_and c.from_residual.result c.from_residual.ensures.1 in
    let w = plain_words c.args.terms.words.now in
    let here : Call = call_under (policy_view g.R.Retire.keeps g.R.Retire.empties g.R.Retire.most c.args.terms.choices.policy) (Some w) (g.P.Places.world c.args.places.now) (g.P.Places.world c.columns_of.new.places)
    (told g.K.Sink.written g.K.Sink.faults g.K.Sink.late c.args.out.now) (told g.K.Sink.written g.K.Sink.faults g.K.Sink.late c.args.out.now) in
    let begins : Begins here w = refl in
    let text = c.requires.may.text (λ e. absurd (cc e)) in
    let read = c.in_err-scoped.ensures in
    let s = c.in_err-scoped.field-0.0 in
    rw (p.1, p.2) (stops here w s refl refl read.reading.few read.reading.asks (columns_stops here w s begins text c.requires.may.task read.stopped refl read.reading.few)
    read.reading.counts_no_read read.reading.late (within_text w w.source here.after text read.reading.within))

pub returns-in_err-program : goal.returns-in_err-program
returns-in_err-program g c =
    let p = err_from_is_err_and c.from_residual-in_err-program.result c.from_residual-in_err-program.ensures.1 in
    let w = plain_words c.args.terms.words.now in
    let here : Call = call_under (policy_view g.R.Retire.keeps g.R.Retire.empties g.R.Retire.most c.args.terms.choices.policy) (Some w) (g.P.Places.world c.args.places.now) (g.P.Places.world c.columns_of.new.places)
    (told g.K.Sink.written g.K.Sink.faults g.K.Sink.late c.args.out.now) (told g.K.Sink.written g.K.Sink.faults g.K.Sink.late c.args.out.now) in
    let begins : Begins here w = refl in
    let read = c.in_ok-scoped.ensures in
    rw (p.1, p.2) (memory_does c.in_ok-scoped.scoped (most_source_bytes + 1) here w begins refl read.reading
    (within_text w w.source here.after (c.requires.may.text (λ e. absurd (cc e))) read.reading.within))

pub run_inputs-requires-clause-names : goal.run_inputs-requires-clause-names
run_inputs-requires-clause-names g c = c.inputs.ensures.value ∙ sym c.in_ok-program.ensures.inputs

pub run_inputs-requires-clause-few : goal.run_inputs-requires-clause-few
run_inputs-requires-clause-few g c =
    let same = ap length c.inputs.ensures.value in
    omega (arith, same, c.in_ok-scoped.ensures.accepted.beside.few, c.in_ok-scoped.ensures.accepted.accepted.few)

pub run_inputs-requires-clause-one : goal.run_inputs-requires-clause-one
run_inputs-requires-clause-one g c =
    let one = first_place_le (plain_words c.args.terms.words.now).source in
    omega (arith, one, c.in_ok-scoped.ensures.reading.few)

pub returns : goal.returns
returns g c =
    let w = plain_words c.args.terms.words.now in
    let here : Call = call_under (policy_view g.R.Retire.keeps g.R.Retire.empties g.R.Retire.most c.args.terms.choices.policy) (Some w) (g.P.Places.world c.args.places.now) (g.P.Places.world c.run_inputs.new.places)
    (told g.K.Sink.written g.K.Sink.faults g.K.Sink.late c.args.out.now) (told g.K.Sink.written g.K.Sink.faults g.K.Sink.late c.run_inputs.new.out) in
    let begins : Begins here w = refl in
    let text = c.requires.may.text (λ e. absurd (cc e)) in
    let read = c.in_ok-scoped.ensures in
    let a = read.accepted in
    let table = table_of c.in_ok-program.program in
    let tree = scoped_tree c.in_ok-scoped.scoped in
    let inputs = inputs_of tree (scoped_inputs c.in_ok-scoped.scoped) (scoped_binding c.in_ok-scoped.scoped) c.inputs.ensures.resolved in
    let keeps : KeepsTree (equations_of table) (beside a.tree w.columns) = subst (KeepsTree (equations_of table)) a.beside.is c.in_ok-program.ensures.keeps in
    run_does c.in_ok-scoped.scoped here w (g.P.Places.world c.columns_of.new.places) c.run_inputs.result refl (λ e. absurd (cc (e, c.requires.may.task)))
    (c.run_inputs.ensures.comes here.before (record {
      read = refl;
      task = c.requires.may.task;
      program = by_columns (columns_of here w tree (scoped_inputs c.in_ok-scoped.scoped) begins text c.requires.may.task a inputs);
      made = subst IsWellMade a.beside.is a.beside.well_made;
      inputs = sym c.in_ok-program.ensures.inputs;
      runs = λ r o h. runs_columns c.figures_carry.ensures c.columns_are_spaces.ensures table a.tree w.columns keeps a.beside.are r o
          (subst (λ p. RanSo p r o) (spaces_of_table w table c.requires.may.task) h);
      kept = read.reading.keeps;
      first = read.reading.reached;
    }))
    read.reading.counts_no_read c.run_inputs.ensures.counts_no_read c.run_inputs.ensures.counts_no_write
    read.reading.late c.run_inputs.ensures.read_late c.run_inputs.ensures.write_late
    (asks_behind here w (g.P.Places.world c.columns_of.new.places)
    (by_columns (columns_of here w tree (scoped_inputs c.in_ok-scoped.scoped) begins text c.requires.may.task a inputs)) table.inputs
    (subst IsWellMade a.beside.is a.beside.well_made) (inl c.requires.may.task) (sym c.in_ok-program.ensures.inputs)
    (ap (λ t. certificate_names t w.check) c.requires.may.task) read.reading.asked c.run_inputs.ensures.asks)
    (within_text w w.source here.after text (c.run_inputs.ensures.within (most_source_bytes + 1) read.reading.reached read.reading.within))
