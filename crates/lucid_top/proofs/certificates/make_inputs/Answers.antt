use Rattle.lucid_top.proofs.Common.{◌++◌, ◌≡◌, ◌≢◌, length, map, Some, refl, sym, ap, subst, ◌∙◌, arith, AllPairs, length-range_with_len, err_from_is_err_and, table_of, plain_words, Call, told, IsRefusalOf, RefusesGiven, FitsGiven, files_for, AreFresh, viewed, le_refl, Makes, MakingComesOnly, time_asked, unwrap_or}
use Rattle.lucid_session.specs.Subject.{table_stream}
use Rattle.std.proofs.Common.{ℕ, List, Ok, Err, IfOk}
use Rattle.lucid_top.specs.Call.{call_under}
use Rattle.lucid_report.specs.Status.{Outcome}
use Rattle.lucid_report.specs.declared.stop.Done.TheVariants as done
use Rattle.lucid_report.specs.declared.stop.Stop.TheVariants as stop
use Rattle.lucid_top.specs.declared.task.Task.TheVariants as task
use Rattle.lucid_top.proofs.Certifying.{given_stops}
use Rattle.lucid_top.proofs.Counting.{none_at_ok, handed_on, counts_then}
use Rattle.lucid_top.proofs.MakingEnds.{reaching_stop, making_ends}
use Rattle.lucid_top.proofs.RunEnds.{carried, refs_are, refs_long, files_long, reached_of, range_differs, all_unread, earlier_stay}
use Rattle.lucid_top.specs.Names.{AsksFront}
use Rattle.lucid_top.proofs.NamesAsked.{none_asked, all_asked, asked_still}
use Rattle.lucid_top.proofs.certificates.make_inputs.Goals as goal

pub returns-in_err-files-clause-comes : goal.returns-in_err-files-clause-comes
returns-in_err-files-clause-comes g c policy before b =
    let p = err_from_is_err_and c.from_residual.result c.from_residual.ensures.1 in
    let t = table_of c.args.basis.program.now in
    let world = g.P.Places.world c.args.places.now in
    let out = told g.K.Sink.written g.K.Sink.faults g.K.Sink.late c.args.out.now in
    let the_call : Call = call_under policy (Some (plain_words c.args.basis.words.now)) before world out out in
    let refused = carried (λ names given. IsRefusalOf (RefusesGiven names given) c.in_err-files.field-0.0) c.args.basis.names.now t.inputs c.deref.result.now
    c.args.basis.words.now.given.items
    c.requires.names c.deref.ensures.value c.in_err-files.ensures.refused in
    rw (p.1, p.2) (given_stops the_call task.Why (plain_words c.args.basis.words.now) t world b refl c.in_err-files.field-0.0 refused refl (omega (arith, b.first)))

pub reach_files-requires : goal.reach_files-requires
reach_files-requires g c =
    let t = table_of c.args.basis.program.now in
    let files = carried (λ names given. map (λ file. file.now) c.in_ok-files.files.items ≡ files_for names given) c.args.basis.names.now t.inputs c.deref.result.now
    c.args.basis.words.now.given.items
    c.requires.names c.deref.ensures.value c.in_ok-files.ensures.files in
    let long = refs_long c.deref-2.result.now _ (refs_are c.deref-2.result.now c.in_ok-files.files.items _ c.deref-2.ensures.value files) in
    let as_many = files_long t.inputs (plain_words c.args.basis.words.now).given in
    let same = ap length c.requires.names in
    omega (arith, long, as_many, same, c.requires.few, c.requires.one)

pub returns-in_err-numbers-clause-comes : goal.returns-in_err-numbers-clause-comes
returns-in_err-numbers-clause-comes g c policy before b =
    let p = err_from_is_err_and c.from_residual-in_err-numbers.result c.from_residual-in_err-numbers.ensures.1 in
    let t = table_of c.args.basis.program.now in
    let world = g.P.Places.world c.args.places.now in
    let out = told g.K.Sink.written g.K.Sink.faults g.K.Sink.late c.args.out.now in
    let files = carried (λ names given. map (λ file. file.now) c.in_ok-files.files.items ≡ files_for names given) c.args.basis.names.now t.inputs c.deref.result.now
    c.args.basis.words.now.given.items
    c.requires.names c.deref.ensures.value c.in_ok-files.ensures.files in
    let same = refs_are c.deref-2.result.now c.in_ok-files.files.items _ c.deref-2.ensures.value files in
    let long = refs_long c.deref-2.result.now _ same in
    let as_many = files_long t.inputs (plain_words c.args.basis.words.now).given in
    let names_long = ap length c.requires.names in
    let fits = carried FitsGiven c.args.basis.names.now t.inputs c.deref.result.now c.args.basis.words.now.given.items c.requires.names c.deref.ensures.value
    c.in_ok-files.ensures.fits in
    let the_call : Call = call_under policy (Some (plain_words c.args.basis.words.now)) before (g.P.Places.world c.reach_files.new.places) out out in
    rw (p.1, p.2) (
    reaching_stop the_call (plain_words c.args.basis.words.now) t world b fits (files_for t.inputs (plain_words c.args.basis.words.now).given) c.in_err-numbers.field-0.0
    as_many c.in_err-numbers.ensures.keeps
    (subst (λ fs. AreFresh fs world (g.P.Places.world c.reach_files.new.places)) same c.in_err-numbers.ensures.fresh)
    (omega (arith, c.in_err-numbers.ensures.few, long)) (omega (arith, as_many, names_long, c.requires.few)) c.in_err-numbers.ensures.stopped refl
    )

pub make_program-requires-clause-count : goal.make_program-requires-clause-count
make_program-requires-clause-count g c =
    let t = table_of c.args.basis.program.now in
    let files = carried (λ names given. map (λ file. file.now) c.in_ok-files.files.items ≡ files_for names given) c.args.basis.names.now t.inputs c.deref.result.now
    c.args.basis.words.now.given.items
    c.requires.names c.deref.ensures.value c.in_ok-files.ensures.files in
    let reached = reached_of t.inputs (plain_words c.args.basis.words.now).given c.deref-2.result.now c.in_ok-files.files.items (g.P.Places.world c.args.places.now)
    (g.P.Places.world c.reach_files.new.places)
    c.in_ok-numbers.numbers.items c.deref-2.ensures.value files c.in_ok-numbers.ensures.fresh c.in_ok-numbers.ensures.reached c.in_ok-numbers.ensures.numbers in
    ap length reached.numbers_are ∙ length-range_with_len _ _ ∙ files_long t.inputs (plain_words c.args.basis.words.now).given ∙ sym (ap length c.requires.names)

pub make_program-requires-clause-differ : goal.make_program-requires-clause-differ
make_program-requires-clause-differ g c =
    subst (λ ns. AllPairs (λ x y. x ≢ y) ns) (sym c.in_ok-numbers.ensures.numbers)
    (range_differs (g.P.Places.world c.args.places.now).reached (length c.deref-2.result.now))

pub make_program-requires-clause-unread : goal.make_program-requires-clause-unread
make_program-requires-clause-unread g c =
    let t = table_of c.args.basis.program.now in
    let files = carried (λ names given. map (λ file. file.now) c.in_ok-files.files.items ≡ files_for names given) c.args.basis.names.now t.inputs c.deref.result.now
    c.args.basis.words.now.given.items
    c.requires.names c.deref.ensures.value c.in_ok-files.ensures.files in
    let reached = reached_of t.inputs (plain_words c.args.basis.words.now).given c.deref-2.result.now c.in_ok-files.files.items (g.P.Places.world c.args.places.now)
    (g.P.Places.world c.reach_files.new.places)
    c.in_ok-numbers.numbers.items c.deref-2.ensures.value files c.in_ok-numbers.ensures.fresh c.in_ok-numbers.ensures.reached c.in_ok-numbers.ensures.numbers in
    all_unread (files_for t.inputs (plain_words c.args.basis.words.now).given) (g.P.Places.world c.args.places.now) (g.P.Places.world c.reach_files.new.places)
    c.in_ok-numbers.numbers.items reached.fresh reached.reached reached.numbers_are

pub returns-clause-comes : goal.returns-clause-comes
returns-clause-comes g c policy before b =
    let t = table_of c.args.basis.program.now in
    let w = plain_words c.args.basis.words.now in
    let world = g.P.Places.world c.args.places.now in
    let reached_world = g.P.Places.world c.reach_files.new.places in
    let after = g.P.Places.world c.make_program.new.places in
    let out = told g.K.Sink.written g.K.Sink.faults g.K.Sink.late c.args.out.now in
    let out_after = told g.K.Sink.written g.K.Sink.faults g.K.Sink.late c.make_program.new.out in
    let files = carried (λ names given. map (λ file. file.now) c.in_ok-files.files.items ≡ files_for names given) c.args.basis.names.now t.inputs c.deref.result.now
    c.args.basis.words.now.given.items
    c.requires.names c.deref.ensures.value c.in_ok-files.ensures.files in
    let reached = reached_of t.inputs w.given c.deref-2.result.now c.in_ok-files.files.items world reached_world
    c.in_ok-numbers.numbers.items c.deref-2.ensures.value files c.in_ok-numbers.ensures.fresh c.in_ok-numbers.ensures.reached c.in_ok-numbers.ensures.numbers in
    let fits = carried FitsGiven c.args.basis.names.now t.inputs c.deref.result.now c.args.basis.words.now.given.items c.requires.names c.deref.ensures.value
    c.in_ok-files.ensures.fits in
    let names_long = ap length c.requires.names in
    let time_is : c.args.time ≡ time_asked w = sym (ap (λ o. unwrap_or o 0) c.requires.time) in
    let the_call : Call = call_under policy (Some w) before after out out_after in
    making_ends the_call w t world b fits c.in_ok-numbers.numbers.items reached_world c.make_program.result c.in_ok-numbers.ensures.keeps reached
    (omega (arith, names_long, c.requires.few))
    c.make_program.ensures.reached c.make_program.ensures.faults
    (subst (λ names. Makes t (table_stream t) (viewed w names c.in_ok-numbers.numbers.items reached_world after out out_after) (time_asked w)
    c.make_program.result) c.requires.names
    (subst (λ time. Makes t (table_stream t) (viewed w c.args.basis.names.now c.in_ok-numbers.numbers.items reached_world after out out_after) time
    c.make_program.result) time_is c.make_program.ensures.makes))
    (subst (λ names. MakingComesOnly names (time_asked w) reached_world.faults after.faults (g.K.Sink.faults c.args.out.now)
    (g.K.Sink.faults c.make_program.new.out) c.make_program.result) c.requires.names
    (subst (λ time. MakingComesOnly c.args.basis.names.now time reached_world.faults after.faults (g.K.Sink.faults c.args.out.now)
    (g.K.Sink.faults c.make_program.new.out) c.make_program.result) time_is c.make_program.ensures.comes_only))

-- a certificate is made, or nothing is
only_written : (names : List (List ℕ)) (time f f' g g' : ℕ) (o : Outcome) → MakingComesOnly names time f f' g g' o → IfOk o (λ d. d ≡ done.Written)
only_written names t f f' g g' (Ok done.Written) h = refl
only_written names t f f' g g' (Ok (done.Ran summary stats)) h = absurd h
only_written names t f f' g g' (Err why) h = tt

pub returns-clause-written : goal.returns-clause-written
returns-clause-written g c = only_written _ _ _ _ _ _ c.make_program.result c.make_program.ensures.comes_only

pub returns-clause-others : goal.returns-clause-others
returns-clause-others g c =
    earlier_stay (g.P.Places.world c.args.places.now) (g.P.Places.world c.reach_files.new.places) (g.P.Places.world c.make_program.new.places)
    (length c.deref-2.result.now) c.in_ok-numbers.numbers.items
    c.in_ok-numbers.ensures.others (g.P.Places.world c.args.places.now).reached (le_refl (g.P.Places.world c.args.places.now).reached)
    c.in_ok-numbers.ensures.numbers c.make_program.ensures.others

pub returns-in_err-numbers-clause-counts_no_read : goal.returns-in_err-numbers-clause-counts_no_read
returns-in_err-numbers-clause-counts_no_read g c =
    let p = err_from_is_err_and c.from_residual-in_err-numbers.result c.from_residual-in_err-numbers.ensures.1 in
    rw (p.1) (handed_on c.in_err-numbers.field-0.0 p.0 stop.ReadFault (g.P.Places.world c.args.places.now).faults
    (g.P.Places.world c.reach_files.new.places).faults p.2 c.in_err-numbers.ensures.counts_no_read)

pub returns-clause-counts_no_read : goal.returns-clause-counts_no_read
returns-clause-counts_no_read g c =
    counts_then (g.P.Places.world c.args.places.now).faults (g.P.Places.world c.reach_files.new.places).faults
    (g.P.Places.world c.make_program.new.places).faults
    (none_at_ok c.in_ok-numbers.numbers stop.ReadFault (g.P.Places.world c.args.places.now).faults (g.P.Places.world c.reach_files.new.places).faults
    c.in_ok-numbers.ensures.counts_no_read) c.make_program.ensures.counts_no_read

pub returns-in_err-files-clause-asks : goal.returns-in_err-files-clause-asks
returns-in_err-files-clause-asks g c = none_asked _ (g.P.Places.world c.args.places.now) (g.P.Places.world c.args.places.now) refl

pub returns-in_err-numbers-clause-asks : goal.returns-in_err-numbers-clause-asks
returns-in_err-numbers-clause-asks g c =
    let t = table_of c.args.basis.program.now in
    let files = carried (λ names given. map (λ file. file.now) c.in_ok-files.files.items ≡ files_for names given) c.args.basis.names.now t.inputs c.deref.result.now
    c.args.basis.words.now.given.items
    c.requires.names c.deref.ensures.value c.in_ok-files.ensures.files in
    let same = refs_are c.deref-2.result.now c.in_ok-files.files.items _ c.deref-2.ensures.value files in
    subst (λ fs. AsksFront fs (g.P.Places.world c.args.places.now) (g.P.Places.world c.reach_files.new.places)) same c.in_err-numbers.ensures.asks

pub returns-clause-asks : goal.returns-clause-asks
returns-clause-asks g c =
    let t = table_of c.args.basis.program.now in
    let files = carried (λ names given. map (λ file. file.now) c.in_ok-files.files.items ≡ files_for names given) c.args.basis.names.now t.inputs c.deref.result.now
    c.args.basis.words.now.given.items
    c.requires.names c.deref.ensures.value c.in_ok-files.ensures.files in
    let same = refs_are c.deref-2.result.now c.in_ok-files.files.items _ c.deref-2.ensures.value files in
    let before = g.P.Places.world c.args.places.now in
    let reached = g.P.Places.world c.reach_files.new.places in
    asked_still (files_for t.inputs (plain_words c.args.basis.words.now).given) before reached (g.P.Places.world c.make_program.new.places)
    (all_asked (files_for t.inputs (plain_words c.args.basis.words.now).given) before reached
    (subst (λ fs. reached.asked ≡ before.asked ++ fs) same c.in_ok-numbers.ensures.asked)) c.make_program.ensures.asked

pub returns-clause-read_late : goal.returns-clause-read_late
returns-clause-read_late g c good =
    c.make_program.ensures.read_late (none_at_ok c.in_ok-numbers.numbers stop.ReadFault (g.P.Places.world c.args.places.now).faults
    (g.P.Places.world c.reach_files.new.places).faults c.in_ok-numbers.ensures.counts_no_read ∙ good) ∙ c.in_ok-numbers.ensures.late good
