use Rattle.lucid_top.proofs.Common.{◌≡◌, ◌⊎◌, refl, subst, err_from_is_err_and, In, table_of, told, viewed}
use Rattle.lucid_inputs.specs.Inputs.{streams}
use Rattle.lucid_session.specs.Subject.{table_stream}
use Rattle.lucid_top.proofs.Asking.{askable, places_are}
use Rattle.lucid_top.proofs.Proving.{right_ends, fault_ends, large_there, unmade}
use Rattle.lucid_top.proofs.Begun.{same_contents}
use Rattle.lucid_top.proofs.checking.check_program.Goals as goal

pub returns-in_err-inputs-clause-checks : goal.returns-in_err-inputs-clause-checks
returns-in_err-inputs-clause-checks g c w =
    let p = err_from_is_err_and c.from_residual.result c.from_residual.ensures.1 in
    unmade (table_of c.args.basis.program.now) (table_stream (table_of c.args.basis.program.now)) c.args.why.now
    (viewed w c.args.basis.names.now c.args.numbers.items (g.P.Places.world c.args.places.now) (g.P.Places.world c.args.places.now)
    (told g.K.Sink.written g.K.Sink.faults g.K.Sink.late c.args.out.now) (told g.K.Sink.written g.K.Sink.faults g.K.Sink.late c.args.out.now))
    c.from_residual.result p.0 p.1 p.2 refl (λ k n q is old new a b. same_contents _ old new a b)

pub check_why-requires-clause-askable : goal.check_why-requires-clause-askable
check_why-requires-clause-askable g c =
    askable c.fresh_fits.ensures (streams c.in_ok-inputs.inputs) c.args.numbers.items (g.P.Places.world c.args.places.now) c.in_ok-inputs.ensures.streams
    c.requires.unread

pub check_stop-requires : goal.check_stop-requires
check_stop-requires g c =
    large_there (table_of c.args.basis.program.now) c.table.ensures.in_range c.args.why.now c.args.basis.names.now c.in_ok-inputs.inputs c.check_why.new.inputs
    (g.P.Places.world c.args.places.now) (g.P.Places.world c.check_why.new.places)
    c.in-Err.fault c.requires.names c.in-Err.ensures

pub returns-in-Ok-clause-checks : goal.returns-in-Ok-clause-checks
returns-in-Ok-clause-checks g c w =
    right_ends c.what_follows_is_meant.ensures c.keeps_within.ensures (table_of c.args.basis.program.now) c.table.ensures.in_range c.args.why.now c.args.basis.names.now
    c.args.numbers.items c.in_ok-inputs.inputs c.check_why.new.inputs
    (g.P.Places.world c.args.places.now) (g.P.Places.world c.check_why.new.places) (told g.K.Sink.written g.K.Sink.faults g.K.Sink.late c.args.out.now)
    (told g.K.Sink.written g.K.Sink.faults g.K.Sink.late c.write_last.new.out)
    c.requires.names c.requires.count c.in_ok-inputs.ensures.streams c.in_ok-inputs.ensures.most w c.in-Ok.ensures c.write_last.result
    c.write_last.ensures.writes

pub returns-in-Ok-clause-others : goal.returns-in-Ok-clause-others
returns-in-Ok-clause-others g c k =
    subst (λ ns. In k ns ⊎ ((g.P.Places.world c.check_why.new.places).place k ≡ (g.P.Places.world c.args.places.now).place k))
    (places_are (streams c.in_ok-inputs.inputs) c.args.numbers.items c.in_ok-inputs.ensures.streams) (c.in-Ok.ensures.looked.reads_only.others k)

pub returns-clause-checks : goal.returns-clause-checks
returns-clause-checks g c w =
    fault_ends c.what_follows_is_meant.ensures c.keeps_within.ensures (table_of c.args.basis.program.now) c.table.ensures.in_range c.args.why.now c.args.basis.names.now
    c.args.numbers.items c.in_ok-inputs.inputs c.check_why.new.inputs
    (g.P.Places.world c.args.places.now) (g.P.Places.world c.check_why.new.places) (told g.K.Sink.written g.K.Sink.faults g.K.Sink.late c.args.out.now)
    (told g.K.Sink.written g.K.Sink.faults g.K.Sink.late c.args.out.now)
    c.requires.names c.requires.count c.in_ok-inputs.ensures.streams c.in_ok-inputs.ensures.most w refl c.in-Err.fault c.in-Err.ensures c.check_stop.result
    c.check_stop.ensures

pub returns-clause-others : goal.returns-clause-others
returns-clause-others g c k =
    subst (λ ns. In k ns ⊎ ((g.P.Places.world c.check_why.new.places).place k ≡ (g.P.Places.world c.args.places.now).place k))
    (places_are (streams c.in_ok-inputs.inputs) c.args.numbers.items c.in_ok-inputs.ensures.streams) (c.in-Err.ensures.looked.reads_only.others k)

pub returns-in-Ok-clause-asked : goal.returns-in-Ok-clause-asked
returns-in-Ok-clause-asked g c = c.in-Ok.ensures.looked.reads_only.asked

pub returns-clause-asked : goal.returns-clause-asked
returns-clause-asked g c = c.in-Err.ensures.looked.reads_only.asked

pub returns-in-Ok-clause-read_late : goal.returns-in-Ok-clause-read_late
returns-in-Ok-clause-read_late g c = c.in-Ok.ensures.late

pub returns-clause-read_late : goal.returns-clause-read_late
returns-clause-read_late g c = c.in-Err.ensures.late
