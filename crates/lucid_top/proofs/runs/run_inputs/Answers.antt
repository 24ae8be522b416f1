use Rattle.lucid_top.proofs.Common.{◌++◌, ◌≡◌, ◌≢◌, length, map, Some, refl, sym, ap, subst, ◌∙◌, arith, AllPairs, length-range_with_len, err_from_is_err_and, table_of, plain_source, plain_words, Call, told, IsRefusalOf, RefusesGiven, FitsGiven, files_for, AreFresh, viewed, table_program, RanSo, RunComesOnly}
use Rattle.lucid_session.specs.Runs.{policy_view}
use Rattle.lucid_top.specs.Runs.{under}
use Rattle.lucid_top.specs.Call.{call_under}
use Rattle.lucid_top.proofs.Ending.{given_stops}
use Rattle.lucid_top.proofs.RunEnds.{reaching_stops, source_stays, source_run, carried, refs_are, refs_long, files_long, reached_of, range_differs, all_unread, runs}
use Rattle.lucid_report.specs.declared.stop.Stop.TheVariants as stop
use Rattle.lucid_top.proofs.Counting.{none_at_ok, handed_on, counts_then}
use Rattle.lucid_top.specs.Names.{AsksFront}
use Rattle.lucid_top.proofs.NamesAsked.{none_asked, all_asked, asked_still}
use Rattle.lucid_top.proofs.runs.run_inputs.Goals as goal

pub returns-in_err-files-clause-comes : goal.returns-in_err-files-clause-comes
returns-in_err-files-clause-comes g c before b =
    let p = err_from_is_err_and c.from_residual.result c.from_residual.ensures.1 in
    let t = table_of c.args.program in
    let world = g.P.Places.world c.args.places.now in
    let out = told g.K.Sink.written g.K.Sink.faults g.K.Sink.late c.args.out.now in
    let the_call : Call = call_under (policy_view g.R.Retire.keeps g.R.Retire.empties g.R.Retire.most c.args.terms.choices.policy) (Some (plain_words c.args.terms.words.now)) before world out out in
    let refused = carried (λ names given. IsRefusalOf (RefusesGiven names given) c.in_err-files.field-0.0) c.args.names.now t.inputs c.deref.result.now
    c.args.terms.words.now.given.items
    c.requires.names c.deref.ensures.value c.in_err-files.ensures.refused in
    rw (p.1, p.2) (given_stops the_call (plain_words c.args.terms.words.now) t world c.in_err-files.field-0.0 b refused refl (omega (arith, b.first)))

pub reach_files-requires : goal.reach_files-requires
reach_files-requires g c =
    let t = table_of c.args.program in
    let files = carried (λ names given. map (λ file. file.now) c.in_ok-files.files.items ≡ files_for names given) c.args.names.now t.inputs c.deref.result.now
    c.args.terms.words.now.given.items
    c.requires.names c.deref.ensures.value c.in_ok-files.ensures.files in
    let long = refs_long c.deref-2.result.now _ (refs_are c.deref-2.result.now c.in_ok-files.files.items _ c.deref-2.ensures.value files) in
    let as_many = files_long t.inputs (plain_words c.args.terms.words.now).given in
    let same = ap length c.requires.names in
    omega (arith, long, as_many, same, c.requires.few, c.requires.one)

pub returns-in_err-numbers-clause-comes : goal.returns-in_err-numbers-clause-comes
returns-in_err-numbers-clause-comes g c before b =
    let p = err_from_is_err_and c.from_residual-in_err-numbers.result c.from_residual-in_err-numbers.ensures.1 in
    let t = table_of c.args.program in
    let world = g.P.Places.world c.args.places.now in
    let out = told g.K.Sink.written g.K.Sink.faults g.K.Sink.late c.args.out.now in
    let files = carried (λ names given. map (λ file. file.now) c.in_ok-files.files.items ≡ files_for names given) c.args.names.now t.inputs c.deref.result.now
    c.args.terms.words.now.given.items
    c.requires.names c.deref.ensures.value c.in_ok-files.ensures.files in
    let same = refs_are c.deref-2.result.now c.in_ok-files.files.items _ c.deref-2.ensures.value files in
    let long = refs_long c.deref-2.result.now _ same in
    let as_many = files_long t.inputs (plain_words c.args.terms.words.now).given in
    let names_long = ap length c.requires.names in
    let fits = carried FitsGiven c.args.names.now t.inputs c.deref.result.now c.args.terms.words.now.given.items c.requires.names c.deref.ensures.value
    c.in_ok-files.ensures.fits in
    let the_call : Call = call_under (policy_view g.R.Retire.keeps g.R.Retire.empties g.R.Retire.most c.args.terms.choices.policy) (Some (plain_words c.args.terms.words.now)) before (g.P.Places.world c.reach_files.new.places) out out in
    rw (p.1, p.2) (
    reaching_stops the_call (plain_words c.args.terms.words.now) t world c.in_err-numbers.field-0.0 b fits c.in_err-numbers.ensures.keeps
    (subst (λ fs. AreFresh fs world (g.P.Places.world c.reach_files.new.places)) same c.in_err-numbers.ensures.fresh)
    (omega (arith, c.in_err-numbers.ensures.few, long)) (omega (arith, as_many, names_long, c.requires.few)) c.in_err-numbers.ensures.stopped refl
    )

pub run_program-requires-clause-count : goal.run_program-requires-clause-count
run_program-requires-clause-count g c =
    let t = table_of c.args.program in
    let files = carried (λ names given. map (λ file. file.now) c.in_ok-files.files.items ≡ files_for names given) c.args.names.now t.inputs c.deref.result.now
    c.args.terms.words.now.given.items
    c.requires.names c.deref.ensures.value c.in_ok-files.ensures.files in
    let reached = reached_of t.inputs (plain_words c.args.terms.words.now).given c.deref-2.result.now c.in_ok-files.files.items (g.P.Places.world c.args.places.now)
    (g.P.Places.world c.reach_files.new.places)
    c.in_ok-numbers.numbers.items c.deref-2.ensures.value files c.in_ok-numbers.ensures.fresh c.in_ok-numbers.ensures.reached c.in_ok-numbers.ensures.numbers in
    ap length reached.numbers_are ∙ length-range_with_len _ _ ∙ files_long t.inputs (plain_words c.args.terms.words.now).given ∙ sym (ap length c.requires.names)

pub run_program-requires-clause-differ : goal.run_program-requires-clause-differ
run_program-requires-clause-differ g c =
    subst (λ ns. AllPairs (λ x y. x ≢ y) ns) (sym c.in_ok-numbers.ensures.numbers)
    (range_differs (g.P.Places.world c.args.places.now).reached (length c.deref-2.result.now))

pub run_program-requires-clause-unread : goal.run_program-requires-clause-unread
run_program-requires-clause-unread g c =
    let t = table_of c.args.program in
    let files = carried (λ names given. map (λ file. file.now) c.in_ok-files.files.items ≡ files_for names given) c.args.names.now t.inputs c.deref.result.now
    c.args.terms.words.now.given.items
    c.requires.names c.deref.ensures.value c.in_ok-files.ensures.files in
    let reached = reached_of t.inputs (plain_words c.args.terms.words.now).given c.deref-2.result.now c.in_ok-files.files.items (g.P.Places.world c.args.places.now)
    (g.P.Places.world c.reach_files.new.places)
    c.in_ok-numbers.numbers.items c.deref-2.ensures.value files c.in_ok-numbers.ensures.fresh c.in_ok-numbers.ensures.reached c.in_ok-numbers.ensures.numbers in
    all_unread (files_for t.inputs (plain_words c.args.terms.words.now).given) (g.P.Places.world c.args.places.now) (g.P.Places.world c.reach_files.new.places)
    c.in_ok-numbers.numbers.items reached.fresh reached.reached reached.numbers_are

pub returns-clause-comes : goal.returns-clause-comes
returns-clause-comes g c before b =
    let t = table_of c.args.program in
    let w = plain_words c.args.terms.words.now in
    let world = g.P.Places.world c.args.places.now in
    let reached_world = g.P.Places.world c.reach_files.new.places in
    let after = g.P.Places.world c.run_program.new.places in
    let out = told g.K.Sink.written g.K.Sink.faults g.K.Sink.late c.args.out.now in
    let out_after = told g.K.Sink.written g.K.Sink.faults g.K.Sink.late c.run_program.new.out in
    let files = carried (λ names given. map (λ file. file.now) c.in_ok-files.files.items ≡ files_for names given) c.args.names.now t.inputs c.deref.result.now
    c.args.terms.words.now.given.items
    c.requires.names c.deref.ensures.value c.in_ok-files.ensures.files in
    let reached = reached_of t.inputs w.given c.deref-2.result.now c.in_ok-files.files.items world reached_world
    c.in_ok-numbers.numbers.items c.deref-2.ensures.value files c.in_ok-numbers.ensures.fresh c.in_ok-numbers.ensures.reached c.in_ok-numbers.ensures.numbers in
    let fits = carried FitsGiven c.args.names.now t.inputs c.deref.result.now c.args.terms.words.now.given.items c.requires.names c.deref.ensures.value
    c.in_ok-files.ensures.fits in
    let names_long = ap length c.requires.names in
    let the_call : Call = call_under (policy_view g.R.Retire.keeps g.R.Retire.empties g.R.Retire.most c.args.terms.choices.policy) (Some w) before after out out_after in
    runs the_call w t world reached_world c.in_ok-numbers.numbers.items c.run_program.result b fits
    (record {
      kept_on = c.in_ok-numbers.ensures.keeps;
      inputs = reached;
      few = omega (arith, names_long, c.requires.few);
      same_reached = c.run_program.ensures.reached;
      faults = c.run_program.ensures.faults;
      bytes = c.run_program.ensures.bytes;
      ran = subst (λ names. RanSo (table_program w t) (under the_call.policy (viewed w names c.in_ok-numbers.numbers.items reached_world after out out_after))
          c.run_program.result)
          c.requires.names c.run_program.ensures.ran;
      only = subst (λ names. RunComesOnly the_call.policy w names reached_world.faults after.faults (g.K.Sink.faults c.args.out.now) (g.K.Sink.faults c.run_program.new.out)
          c.run_program.result) c.requires.names c.run_program.ensures.comes_only;
    })

pub returns-in_err-numbers-clause-within : goal.returns-in_err-numbers-clause-within
returns-in_err-numbers-clause-within g c most first within =
    source_stays most (plain_source c.args.terms.words.now.source) (g.P.Places.world c.args.places.now) (g.P.Places.world c.reach_files.new.places) within first
    c.in_err-numbers.ensures.others

pub returns-clause-within : goal.returns-clause-within
returns-clause-within g c most first within =
    source_run most (plain_source c.args.terms.words.now.source) (g.P.Places.world c.args.places.now) (g.P.Places.world c.reach_files.new.places)
    (g.P.Places.world c.run_program.new.places)
    (length c.deref-2.result.now) c.in_ok-numbers.numbers.items within first c.in_ok-numbers.ensures.others c.in_ok-numbers.ensures.numbers
    c.run_program.ensures.others

pub returns-in_err-numbers-clause-counts_no_read : goal.returns-in_err-numbers-clause-counts_no_read
returns-in_err-numbers-clause-counts_no_read g c =
    let p = err_from_is_err_and c.from_residual-in_err-numbers.result c.from_residual-in_err-numbers.ensures.1 in
    rw (p.1) (handed_on c.in_err-numbers.field-0.0 p.0 stop.ReadFault (g.P.Places.world c.args.places.now).faults
    (g.P.Places.world c.reach_files.new.places).faults p.2 c.in_err-numbers.ensures.counts_no_read)

pub returns-clause-counts_no_read : goal.returns-clause-counts_no_read
returns-clause-counts_no_read g c =
    counts_then (g.P.Places.world c.args.places.now).faults (g.P.Places.world c.reach_files.new.places).faults
    (g.P.Places.world c.run_program.new.places).faults
    (none_at_ok c.in_ok-numbers.numbers stop.ReadFault (g.P.Places.world c.args.places.now).faults (g.P.Places.world c.reach_files.new.places).faults
    c.in_ok-numbers.ensures.counts_no_read) c.run_program.ensures.counts_no_read

pub returns-in_err-files-clause-asks : goal.returns-in_err-files-clause-asks
returns-in_err-files-clause-asks g c = none_asked _ (g.P.Places.world c.args.places.now) (g.P.Places.world c.args.places.now) refl

pub returns-in_err-numbers-clause-asks : goal.returns-in_err-numbers-clause-asks
returns-in_err-numbers-clause-asks g c =
    let t = table_of c.args.program in
    let files = carried (λ names given. map (λ file. file.now) c.in_ok-files.files.items ≡ files_for names given) c.args.names.now t.inputs c.deref.result.now
    c.args.terms.words.now.given.items
    c.requires.names c.deref.ensures.value c.in_ok-files.ensures.files in
    let same = refs_are c.deref-2.result.now c.in_ok-files.files.items _ c.deref-2.ensures.value files in
    subst (λ fs. AsksFront fs (g.P.Places.world c.args.places.now) (g.P.Places.world c.reach_files.new.places)) same c.in_err-numbers.ensures.asks

pub returns-clause-asks : goal.returns-clause-asks
returns-clause-asks g c =
    let t = table_of c.args.program in
    let files = carried (λ names given. map (λ file. file.now) c.in_ok-files.files.items ≡ files_for names given) c.args.names.now t.inputs c.deref.result.now
    c.args.terms.words.now.given.items
    c.requires.names c.deref.ensures.value c.in_ok-files.ensures.files in
    let same = refs_are c.deref-2.result.now c.in_ok-files.files.items _ c.deref-2.ensures.value files in
    let before = g.P.Places.world c.args.places.now in
    let reached = g.P.Places.world c.reach_files.new.places in
    asked_still (files_for t.inputs (plain_words c.args.terms.words.now).given) before reached (g.P.Places.world c.run_program.new.places)
    (all_asked (files_for t.inputs (plain_words c.args.terms.words.now).given) before reached
    (subst (λ fs. reached.asked ≡ before.asked ++ fs) same c.in_ok-numbers.ensures.asked)) c.run_program.ensures.asked

pub returns-clause-read_late : goal.returns-clause-read_late
returns-clause-read_late g c good =
    c.run_program.ensures.read_late (none_at_ok c.in_ok-numbers.numbers stop.ReadFault (g.P.Places.world c.args.places.now).faults
    (g.P.Places.world c.reach_files.new.places).faults c.in_ok-numbers.ensures.counts_no_read ∙ good) ∙ c.in_ok-numbers.ensures.late good
