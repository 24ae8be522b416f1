use Rattle.lucid_top.proofs.Common.{◌≡◌, ◌⊎◌, refl, subst, arith, err_from_is_err_and, In, table_of, plain_words, told, viewed}
use Rattle.lucid_inputs.specs.Inputs.{streams}
use Rattle.lucid_session.specs.Subject.{table_stream}
use Rattle.lucid_top.proofs.Asking.{askable, places_are}
use Rattle.lucid_top.proofs.Begun.{same_contents}
use Rattle.lucid_top.proofs.Promising.{made_ends, fault_ends, large_there, made_one, unmade}
use Rattle.lucid_top.proofs.Unread.{ReadOn}
use Rattle.lucid_top.proofs.making.make_program.Goals as goal

pub returns-in_err-inputs-clause-makes : goal.returns-in_err-inputs-clause-makes
returns-in_err-inputs-clause-makes g c =
    let p = err_from_is_err_and c.from_residual.result c.from_residual.ensures.1 in
    unmade (table_of c.args.basis.program.now) (table_stream (table_of c.args.basis.program.now))
    (viewed (plain_words c.args.basis.words.now) c.args.basis.names.now c.args.numbers.items (g.P.Places.world c.args.places.now) (g.P.Places.world c.args.places.now)
    (told g.K.Sink.written g.K.Sink.faults g.K.Sink.late c.args.out.now) (told g.K.Sink.written g.K.Sink.faults g.K.Sink.late c.args.out.now))
    c.args.time c.from_residual.result p.0 p.1 p.2 refl (λ k n q is old new a b. same_contents _ old new a b)

pub certify-requires-clause-askable : goal.certify-requires-clause-askable
certify-requires-clause-askable g c =
    askable c.fresh_fits.ensures (streams c.in_ok-inputs.inputs) c.args.numbers.items (g.P.Places.world c.args.places.now) c.in_ok-inputs.ensures.streams
    c.requires.unread

pub write_why-requires-clause-shown : goal.write_why-requires-clause-shown
write_why-requires-clause-shown g c = (made_one (table_of c.args.basis.program.now) c.args.time c.certify.new.inputs c.in-Ok.why
    c.in-Ok.ensures.made.made).shown

pub write_why-requires-clause-some : goal.write_why-requires-clause-some
write_why-requires-clause-some g c =
    let last = (made_one (table_of c.args.basis.program.now) c.args.time c.certify.new.inputs c.in-Ok.why c.in-Ok.ensures.made.made).right.last_number in
    omega (arith, last)

pub making_stop-requires : goal.making_stop-requires
making_stop-requires g c =
    large_there (table_of c.args.basis.program.now) c.args.time c.args.basis.words.now.options.depth c.args.basis.names.now c.in_ok-inputs.inputs
    c.certify.new.inputs (g.P.Places.world c.certify.new.places)
    c.in-Err.fault c.requires.names c.in-Err.ensures.demanded

pub returns-in-Ok-clause-makes : goal.returns-in-Ok-clause-makes
returns-in-Ok-clause-makes g c =
    let T = table_of c.args.basis.program.now in
    let w = plain_words c.args.basis.words.now in
    let before = g.P.Places.world c.args.places.now in
    let after = g.P.Places.world c.certify.new.places in
    let out = told g.K.Sink.written g.K.Sink.faults g.K.Sink.late c.args.out.now in
    let out_after = told g.K.Sink.written g.K.Sink.faults g.K.Sink.late c.write_why.new.out in
    let made = c.in-Ok.ensures.made in
    let on : ReadOn c.args.numbers.items c.in_ok-inputs.inputs c.certify.new.inputs before after = record {
      fresh = c.in_ok-inputs.ensures.streams;
      bound = c.in_ok-inputs.ensures.most;
      places = made.places;
      most = made.most;
      askable = made.askable;
      reads_only = made.reads_only;
    } in
    made_ends T c.args.time c.args.basis.names.now c.args.numbers.items c.in_ok-inputs.inputs c.certify.new.inputs before after out out_after
    c.requires.names c.requires.count on w
    c.keeps_within.ensures c.in-Ok.ensures.demanded.drawn c.what_follows_is_meant.ensures c.table.ensures.in_range c.in-Ok.why made.made c.write_why.result
    c.write_why.ensures.writes

pub returns-in-Ok-clause-others : goal.returns-in-Ok-clause-others
returns-in-Ok-clause-others g c k =
    subst (λ ns. In k ns ⊎ ((g.P.Places.world c.certify.new.places).place k ≡ (g.P.Places.world c.args.places.now).place k))
    (places_are (streams c.in_ok-inputs.inputs) c.args.numbers.items c.in_ok-inputs.ensures.streams) (c.in-Ok.ensures.made.reads_only.others k)

pub returns-clause-makes : goal.returns-clause-makes
returns-clause-makes g c =
    let T = table_of c.args.basis.program.now in
    let w = plain_words c.args.basis.words.now in
    let before = g.P.Places.world c.args.places.now in
    let after = g.P.Places.world c.certify.new.places in
    let out = told g.K.Sink.written g.K.Sink.faults g.K.Sink.late c.args.out.now in
    let made = c.in-Err.ensures.made in
    let on : ReadOn c.args.numbers.items c.in_ok-inputs.inputs c.certify.new.inputs before after = record {
      fresh = c.in_ok-inputs.ensures.streams;
      bound = c.in_ok-inputs.ensures.most;
      places = made.places;
      most = made.most;
      askable = made.askable;
      reads_only = made.reads_only;
    } in
    fault_ends T c.args.time c.args.basis.names.now c.args.numbers.items c.in_ok-inputs.inputs c.certify.new.inputs before after out out
    c.requires.names c.requires.count on w
    c.keeps_within.ensures c.in-Err.ensures.demanded.drawn refl c.in-Err.fault c.in-Err.ensures.demanded c.making_stop.result c.making_stop.ensures

pub returns-clause-others : goal.returns-clause-others
returns-clause-others g c k =
    subst (λ ns. In k ns ⊎ ((g.P.Places.world c.certify.new.places).place k ≡ (g.P.Places.world c.args.places.now).place k))
    (places_are (streams c.in_ok-inputs.inputs) c.args.numbers.items c.in_ok-inputs.ensures.streams) (c.in-Err.ensures.made.reads_only.others k)

pub returns-in-Ok-clause-asked : goal.returns-in-Ok-clause-asked
returns-in-Ok-clause-asked g c = c.in-Ok.ensures.made.reads_only.asked

pub returns-clause-asked : goal.returns-clause-asked
returns-clause-asked g c = c.in-Err.ensures.made.reads_only.asked

pub returns-in-Ok-clause-read_late : goal.returns-in-Ok-clause-read_late
returns-in-Ok-clause-read_late g c = c.in-Ok.ensures.made.late

pub returns-clause-read_late : goal.returns-clause-read_late
returns-clause-read_late g c = c.in-Err.ensures.made.late
