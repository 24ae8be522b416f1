use Rattle.lucid_top.proofs.Common.{◌++◌, ◌∷◌, [], ◌≡◌, ◌≢◌, ◌+◌, length, map, Some, refl, sym, ap, subst, ◌∙◌, arith, AllPairs, length-range_with_len, err_from_is_err_and, table_of, plain_words, Call, told, IsRefusalOf, RefusesGiven, FitsGiven, files_for, AreFresh, viewed, Checks, CheckComesOnly, HeldCertificate, RefusesCertificate, IsSourceStop, file, most_certificate_bytes}
use Rattle.lucid_session.specs.Subject.{table_stream}
use Rattle.lucid_top.specs.Call.{call_under}
use Rattle.lucid_report.specs.declared.stop.Stop.TheVariants as stop
use Rattle.lucid_top.specs.declared.task.Task.TheVariants as task
use Rattle.lucid_top.proofs.Certifying.{given_stops}
use Rattle.lucid_top.proofs.CheckEnds.{certificate_stop, reaching_stop, check_ends}
use Rattle.lucid_top.proofs.RunEnds.{carried, refs_are, refs_long, files_long, reached_of, range_differs, all_unread, earlier_stay}
use Rattle.lucid_top.proofs.Counting.{none_at_ok, handed_on, counts_then}
use Rattle.lucid_top.proofs.Reaching.{kept_then, reads_still}
use Rattle.lucid_top.specs.Names.{AsksFront}
use Rattle.lucid_top.proofs.NamesAsked.{none_asked, all_asked, asked_still, asked_then, front_more}
use Rattle.lucid_top.proofs.certificates.check_inputs.Goals as goal

pub returns-in_err-files-clause-comes : goal.returns-in_err-files-clause-comes
returns-in_err-files-clause-comes g c policy before b =
    let p = err_from_is_err_and c.from_residual.result c.from_residual.ensures.1 in
    let t = table_of c.args.basis.program.now in
    let world = g.P.Places.world c.args.places.now in
    let out = told g.K.Sink.written g.K.Sink.faults g.K.Sink.late c.args.out.now in
    let the_call : Call = call_under policy (Some (plain_words c.args.basis.words.now)) before world out out in
    let refused = carried (λ names given. IsRefusalOf (RefusesGiven names given) c.in_err-files.field-0.0) c.args.basis.names.now t.inputs c.deref.result.now
    c.args.basis.words.now.given.items
    c.requires.names c.deref.ensures.value c.in_err-files.ensures.refused in
    rw (p.1, p.2) (given_stops the_call task.Check (plain_words c.args.basis.words.now) t world b refl c.in_err-files.field-0.0 refused refl (omega (arith, b.first)))

pub returns-in_err-why-clause-comes : goal.returns-in_err-why-clause-comes
returns-in_err-why-clause-comes g c policy before b =
    let p = err_from_is_err_and c.from_residual-in_err-why.result c.from_residual-in_err-why.ensures.1 in
    let t = table_of c.args.basis.program.now in
    let world = g.P.Places.world c.args.places.now in
    let out = told g.K.Sink.written g.K.Sink.faults g.K.Sink.late c.args.out.now in
    let fits = carried FitsGiven c.args.basis.names.now t.inputs c.deref.result.now c.args.basis.words.now.given.items c.requires.names c.deref.ensures.value
    c.in_ok-files.ensures.fits in
    let the_call : Call = call_under policy (Some (plain_words c.args.basis.words.now)) before (g.P.Places.world c.read_certificate.new.places) out out in
    let read = c.in_err-why.ensures in
    rw (p.1, p.2) (certificate_stop the_call (plain_words c.args.basis.words.now) t world b fits c.in_err-why.field-0.0 read.reading.keeps
    (subst (λ name. IsSourceStop RefusesCertificate (file name) world (g.P.Places.world c.read_certificate.new.places) c.in_err-why.field-0.0)
    c.requires.file read.stopped) refl read.reading.few)

pub reach_files-requires : goal.reach_files-requires
reach_files-requires g c =
    let t = table_of c.args.basis.program.now in
    let files = carried (λ names given. map (λ file. file.now) c.in_ok-files.files.items ≡ files_for names given) c.args.basis.names.now t.inputs c.deref.result.now
    c.args.basis.words.now.given.items
    c.requires.names c.deref.ensures.value c.in_ok-files.ensures.files in
    let long = refs_long c.deref-2.result.now _ (refs_are c.deref-2.result.now c.in_ok-files.files.items _ c.deref-2.ensures.value files) in
    let as_many = files_long t.inputs (plain_words c.args.basis.words.now).given in
    let same = ap length c.requires.names in
    omega (arith, long, as_many, same, c.requires.few, c.requires.one, c.in_ok-why.ensures.reading.few)

pub returns-in_err-numbers-clause-comes : goal.returns-in_err-numbers-clause-comes
returns-in_err-numbers-clause-comes g c policy before b =
    let p = err_from_is_err_and c.from_residual-in_err-numbers.result c.from_residual-in_err-numbers.ensures.1 in
    let world = g.P.Places.world c.args.places.now in
    let read_world = g.P.Places.world c.read_certificate.new.places in
    let out = told g.K.Sink.written g.K.Sink.faults g.K.Sink.late c.args.out.now in
    let t = table_of c.args.basis.program.now in
    let files = carried (λ names given. map (λ file. file.now) c.in_ok-files.files.items ≡ files_for names given) c.args.basis.names.now t.inputs c.deref.result.now
    c.args.basis.words.now.given.items
    c.requires.names c.deref.ensures.value c.in_ok-files.ensures.files in
    let same = refs_are c.deref-2.result.now c.in_ok-files.files.items _ c.deref-2.ensures.value files in
    let long = refs_long c.deref-2.result.now _ same in
    let as_many = files_long t.inputs (plain_words c.args.basis.words.now).given in
    let names_long = ap length c.requires.names in
    let fits = carried FitsGiven c.args.basis.names.now t.inputs c.deref.result.now c.args.basis.words.now.given.items c.requires.names c.deref.ensures.value
    c.in_ok-files.ensures.fits in
    let the_call : Call = call_under policy (Some (plain_words c.args.basis.words.now)) before (g.P.Places.world c.reach_files.new.places) out out in
    let read = c.in_ok-why.ensures in
    rw (p.1, p.2) (
    reaching_stop the_call (plain_words c.args.basis.words.now) t world b fits read_world c.in_ok-why.why
    (subst (λ name. HeldCertificate name world c.in_ok-why.why) c.requires.file read.held) read.reading.keeps read.reading.reached
    (files_for t.inputs (plain_words c.args.basis.words.now).given) c.in_err-numbers.field-0.0 as_many c.in_err-numbers.ensures.keeps
    (subst (λ fs. AreFresh fs read_world (g.P.Places.world c.reach_files.new.places)) same c.in_err-numbers.ensures.fresh)
    (omega (arith, c.in_err-numbers.ensures.few, long)) (omega (arith, as_many, names_long, c.requires.few)) c.in_err-numbers.ensures.stopped refl
    )

pub check_program-requires-clause-count : goal.check_program-requires-clause-count
check_program-requires-clause-count g c =
    let t = table_of c.args.basis.program.now in
    let files = carried (λ names given. map (λ file. file.now) c.in_ok-files.files.items ≡ files_for names given) c.args.basis.names.now t.inputs c.deref.result.now
    c.args.basis.words.now.given.items
    c.requires.names c.deref.ensures.value c.in_ok-files.ensures.files in
    let reached = reached_of t.inputs (plain_words c.args.basis.words.now).given c.deref-2.result.now c.in_ok-files.files.items
    (g.P.Places.world c.read_certificate.new.places) (g.P.Places.world c.reach_files.new.places)
    c.in_ok-numbers.numbers.items c.deref-2.ensures.value files c.in_ok-numbers.ensures.fresh c.in_ok-numbers.ensures.reached c.in_ok-numbers.ensures.numbers in
    ap length reached.numbers_are ∙ length-range_with_len _ _ ∙ files_long t.inputs (plain_words c.args.basis.words.now).given ∙ sym (ap length c.requires.names)

pub check_program-requires-clause-differ : goal.check_program-requires-clause-differ
check_program-requires-clause-differ g c =
    subst (λ ns. AllPairs (λ x y. x ≢ y) ns) (sym c.in_ok-numbers.ensures.numbers)
    (range_differs (g.P.Places.world c.read_certificate.new.places).reached (length c.deref-2.result.now))

pub check_program-requires-clause-unread : goal.check_program-requires-clause-unread
check_program-requires-clause-unread g c =
    let t = table_of c.args.basis.program.now in
    let files = carried (λ names given. map (λ file. file.now) c.in_ok-files.files.items ≡ files_for names given) c.args.basis.names.now t.inputs c.deref.result.now
    c.args.basis.words.now.given.items
    c.requires.names c.deref.ensures.value c.in_ok-files.ensures.files in
    let reached = reached_of t.inputs (plain_words c.args.basis.words.now).given c.deref-2.result.now c.in_ok-files.files.items
    (g.P.Places.world c.read_certificate.new.places) (g.P.Places.world c.reach_files.new.places)
    c.in_ok-numbers.numbers.items c.deref-2.ensures.value files c.in_ok-numbers.ensures.fresh c.in_ok-numbers.ensures.reached c.in_ok-numbers.ensures.numbers in
    all_unread (files_for t.inputs (plain_words c.args.basis.words.now).given) (g.P.Places.world c.read_certificate.new.places)
    (g.P.Places.world c.reach_files.new.places)
    c.in_ok-numbers.numbers.items reached.fresh reached.reached reached.numbers_are

pub check_program-requires-clause-some : goal.check_program-requires-clause-some
check_program-requires-clause-some g c = c.in_ok-why.ensures.held.holds.text.has.some

pub returns-clause-comes : goal.returns-clause-comes
returns-clause-comes g c policy before b =
    let w = plain_words c.args.basis.words.now in
    let world = g.P.Places.world c.args.places.now in
    let read_world = g.P.Places.world c.read_certificate.new.places in
    let reached_world = g.P.Places.world c.reach_files.new.places in
    let after = g.P.Places.world c.check_program.new.places in
    let out = told g.K.Sink.written g.K.Sink.faults g.K.Sink.late c.args.out.now in
    let out_after = told g.K.Sink.written g.K.Sink.faults g.K.Sink.late c.check_program.new.out in
    let t = table_of c.args.basis.program.now in
    let files = carried (λ names given. map (λ file. file.now) c.in_ok-files.files.items ≡ files_for names given) c.args.basis.names.now t.inputs c.deref.result.now
    c.args.basis.words.now.given.items
    c.requires.names c.deref.ensures.value c.in_ok-files.ensures.files in
    let reached = reached_of t.inputs w.given c.deref-2.result.now c.in_ok-files.files.items read_world reached_world
    c.in_ok-numbers.numbers.items c.deref-2.ensures.value files c.in_ok-numbers.ensures.fresh c.in_ok-numbers.ensures.reached c.in_ok-numbers.ensures.numbers in
    let fits = carried FitsGiven c.args.basis.names.now t.inputs c.deref.result.now c.args.basis.words.now.given.items c.requires.names c.deref.ensures.value
    c.in_ok-files.ensures.fits in
    let names_long = ap length c.requires.names in
    let the_call : Call = call_under policy (Some w) before after out out_after in
    let read = c.in_ok-why.ensures in
    check_ends the_call w t world b fits read_world c.in_ok-why.why (subst (λ name. HeldCertificate name world c.in_ok-why.why) c.requires.file read.held)
    read.reading.keeps read.reading.reached
    c.in_ok-numbers.numbers.items reached_world c.check_program.result c.in_ok-numbers.ensures.keeps reached (omega (arith, names_long, c.requires.few))
    c.check_program.ensures.reached c.check_program.ensures.faults
    (subst (λ names. Checks t (table_stream t) c.in_ok-why.why (viewed w names c.in_ok-numbers.numbers.items reached_world after out out_after)
    c.check_program.result) c.requires.names (c.check_program.ensures.checks w))
    (subst (λ names. CheckComesOnly names reached_world.faults after.faults (g.K.Sink.faults c.args.out.now) (g.K.Sink.faults c.check_program.new.out)
    c.check_program.result) c.requires.names c.check_program.ensures.comes_only)

pub returns-in_err-numbers-clause-others : goal.returns-in_err-numbers-clause-others
returns-in_err-numbers-clause-others g c =
    kept_then (g.P.Places.world c.args.places.now) (g.P.Places.world c.read_certificate.new.places) (g.P.Places.world c.reach_files.new.places)
    c.in_ok-why.ensures.reading.others
    (omega (arith, c.in_ok-why.ensures.reading.reached)) c.in_err-numbers.ensures.others

pub returns-clause-others : goal.returns-clause-others
returns-clause-others g c =
    earlier_stay (g.P.Places.world c.args.places.now) (g.P.Places.world c.reach_files.new.places) (g.P.Places.world c.check_program.new.places)
    (length c.deref-2.result.now) c.in_ok-numbers.numbers.items
    (kept_then (g.P.Places.world c.args.places.now) (g.P.Places.world c.read_certificate.new.places) (g.P.Places.world c.reach_files.new.places)
    c.in_ok-why.ensures.reading.others
    (omega (arith, c.in_ok-why.ensures.reading.reached)) c.in_ok-numbers.ensures.others)
    (g.P.Places.world c.read_certificate.new.places).reached (omega (arith, c.in_ok-why.ensures.reading.reached)) c.in_ok-numbers.ensures.numbers
    c.check_program.ensures.others

pub returns-in_err-numbers-clause-certificate : goal.returns-in_err-numbers-clause-certificate
returns-in_err-numbers-clause-certificate g c =
    reads_still (most_certificate_bytes + 1) (g.P.Places.world c.args.places.now).reached (g.P.Places.world c.read_certificate.new.places)
    (g.P.Places.world c.reach_files.new.places) c.in_ok-why.ensures.reading.within
    (omega (arith, c.in_ok-why.ensures.reading.reached)) c.in_err-numbers.ensures.others

pub returns-clause-certificate : goal.returns-clause-certificate
returns-clause-certificate g c =
    reads_still (most_certificate_bytes + 1) (g.P.Places.world c.args.places.now).reached (g.P.Places.world c.read_certificate.new.places)
    (g.P.Places.world c.check_program.new.places) c.in_ok-why.ensures.reading.within
    (omega (arith, c.in_ok-why.ensures.reading.reached))
    (earlier_stay (g.P.Places.world c.read_certificate.new.places) (g.P.Places.world c.reach_files.new.places) (g.P.Places.world c.check_program.new.places)
    (length c.deref-2.result.now) c.in_ok-numbers.numbers.items
    c.in_ok-numbers.ensures.others (g.P.Places.world c.read_certificate.new.places).reached (omega arith) c.in_ok-numbers.ensures.numbers
    c.check_program.ensures.others)

pub returns-in_err-why-clause-counts_no_read : goal.returns-in_err-why-clause-counts_no_read
returns-in_err-why-clause-counts_no_read g c =
    let p = err_from_is_err_and c.from_residual-in_err-why.result c.from_residual-in_err-why.ensures.1 in
    rw (p.1) (handed_on c.in_err-why.field-0.0 p.0 stop.ReadFault (g.P.Places.world c.args.places.now).faults
    (g.P.Places.world c.read_certificate.new.places).faults p.2 c.in_err-why.ensures.reading.counts_no_read)

pub returns-in_err-numbers-clause-counts_no_read : goal.returns-in_err-numbers-clause-counts_no_read
returns-in_err-numbers-clause-counts_no_read g c =
    let p = err_from_is_err_and c.from_residual-in_err-numbers.result c.from_residual-in_err-numbers.ensures.1 in
    rw (p.1) (counts_then (g.P.Places.world c.args.places.now).faults (g.P.Places.world c.read_certificate.new.places).faults
    (g.P.Places.world c.reach_files.new.places).faults
    (none_at_ok c.in_ok-why.why stop.ReadFault (g.P.Places.world c.args.places.now).faults (g.P.Places.world c.read_certificate.new.places).faults
    c.in_ok-why.ensures.reading.counts_no_read)
    (handed_on c.in_err-numbers.field-0.0 p.0 stop.ReadFault (g.P.Places.world c.read_certificate.new.places).faults
    (g.P.Places.world c.reach_files.new.places).faults p.2 c.in_err-numbers.ensures.counts_no_read))

pub returns-clause-counts_no_read : goal.returns-clause-counts_no_read
returns-clause-counts_no_read g c =
    counts_then (g.P.Places.world c.args.places.now).faults (g.P.Places.world c.read_certificate.new.places).faults
    (g.P.Places.world c.check_program.new.places).faults
    (none_at_ok c.in_ok-why.why stop.ReadFault (g.P.Places.world c.args.places.now).faults (g.P.Places.world c.read_certificate.new.places).faults
    c.in_ok-why.ensures.reading.counts_no_read)
    (counts_then (g.P.Places.world c.read_certificate.new.places).faults (g.P.Places.world c.reach_files.new.places).faults
    (g.P.Places.world c.check_program.new.places).faults
    (none_at_ok c.in_ok-numbers.numbers stop.ReadFault (g.P.Places.world c.read_certificate.new.places).faults
    (g.P.Places.world c.reach_files.new.places).faults c.in_ok-numbers.ensures.counts_no_read)
    c.check_program.ensures.counts_no_read)

pub returns-in_err-files-clause-asks : goal.returns-in_err-files-clause-asks
returns-in_err-files-clause-asks g c = none_asked _ (g.P.Places.world c.args.places.now) (g.P.Places.world c.args.places.now) refl

pub returns-in_err-why-clause-asks : goal.returns-in_err-why-clause-asks
returns-in_err-why-clause-asks g c =
    let check = (plain_words c.args.basis.words.now).check in
    let before = g.P.Places.world c.args.places.now in
    let read = g.P.Places.world c.read_certificate.new.places in
    front_more (check ∷ []) (files_for (table_of c.args.basis.program.now).inputs (plain_words c.args.basis.words.now).given) before read
    (subst (λ name. AsksFront (name ∷ []) before read) c.requires.file c.in_err-why.ensures.asks)

pub returns-in_err-numbers-clause-asks : goal.returns-in_err-numbers-clause-asks
returns-in_err-numbers-clause-asks g c =
    let t = table_of c.args.basis.program.now in
    let files = carried (λ names given. map (λ file. file.now) c.in_ok-files.files.items ≡ files_for names given) c.args.basis.names.now t.inputs c.deref.result.now
    c.args.basis.words.now.given.items
    c.requires.names c.deref.ensures.value c.in_ok-files.ensures.files in
    let same = refs_are c.deref-2.result.now c.in_ok-files.files.items _ c.deref-2.ensures.value files in
    let before = g.P.Places.world c.args.places.now in
    let read = g.P.Places.world c.read_certificate.new.places in
    let check = (plain_words c.args.basis.words.now).check in
    asked_then (check ∷ []) (files_for t.inputs (plain_words c.args.basis.words.now).given) before read (g.P.Places.world c.reach_files.new.places)
    (subst (λ name. read.asked ≡ before.asked ++ name ∷ []) c.requires.file c.in_ok-why.ensures.asked)
    (subst (λ fs. AsksFront fs read (g.P.Places.world c.reach_files.new.places)) same c.in_err-numbers.ensures.asks)

pub returns-clause-asks : goal.returns-clause-asks
returns-clause-asks g c =
    let t = table_of c.args.basis.program.now in
    let files = carried (λ names given. map (λ file. file.now) c.in_ok-files.files.items ≡ files_for names given) c.args.basis.names.now t.inputs c.deref.result.now
    c.args.basis.words.now.given.items
    c.requires.names c.deref.ensures.value c.in_ok-files.ensures.files in
    let same = refs_are c.deref-2.result.now c.in_ok-files.files.items _ c.deref-2.ensures.value files in
    let before = g.P.Places.world c.args.places.now in
    let read = g.P.Places.world c.read_certificate.new.places in
    let reached = g.P.Places.world c.reach_files.new.places in
    let check = (plain_words c.args.basis.words.now).check in
    let names = files_for t.inputs (plain_words c.args.basis.words.now).given in
    asked_then (check ∷ []) names before read (g.P.Places.world c.check_program.new.places)
    (subst (λ name. read.asked ≡ before.asked ++ name ∷ []) c.requires.file c.in_ok-why.ensures.asked)
    (asked_still names read reached (g.P.Places.world c.check_program.new.places)
    (all_asked names read reached (subst (λ fs. reached.asked ≡ read.asked ++ fs) same c.in_ok-numbers.ensures.asked)) c.check_program.ensures.asked)

pub returns-in_err-why-clause-read_late : goal.returns-in_err-why-clause-read_late
returns-in_err-why-clause-read_late g c = c.in_err-why.ensures.reading.late

pub returns-in_err-numbers-clause-read_late : goal.returns-in_err-numbers-clause-read_late
returns-in_err-numbers-clause-read_late g c good =
    c.in_err-numbers.ensures.late (none_at_ok c.in_ok-why.why stop.ReadFault (g.P.Places.world c.args.places.now).faults
    (g.P.Places.world c.read_certificate.new.places).faults c.in_ok-why.ensures.reading.counts_no_read ∙ good) ∙ c.in_ok-why.ensures.reading.late good

pub returns-clause-read_late : goal.returns-clause-read_late
returns-clause-read_late g c good =
    let first = none_at_ok c.in_ok-why.why stop.ReadFault (g.P.Places.world c.args.places.now).faults (g.P.Places.world c.read_certificate.new.places).faults
    c.in_ok-why.ensures.reading.counts_no_read in
    let second = none_at_ok c.in_ok-numbers.numbers stop.ReadFault (g.P.Places.world c.read_certificate.new.places).faults
    (g.P.Places.world c.reach_files.new.places).faults c.in_ok-numbers.ensures.counts_no_read in
    c.check_program.ensures.read_late (second ∙ (first ∙ good)) ∙ (c.in_ok-numbers.ensures.late (first ∙ good) ∙ c.in_ok-why.ensures.reading.late good)
