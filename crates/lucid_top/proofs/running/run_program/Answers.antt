use Rattle.lucid_top.proofs.Common.{◌≡◌, ◌<◌, ◌⊎◌, Ok, Err, refl, sym, subst, length, err_from_is_err_and, In, table_of, plain_words, told, OnTooLarge, viewed, table_program}
use Rattle.lucid_inputs.specs.Inputs.{streams, most_bytes}
use Rattle.lucid_demand_steps.specs.Engine.{places_of}
use Rattle.lucid_session.specs.Runs.{policy_view}
use Rattle.lucid_top.specs.Runs.{under}
use Rattle.lucid_top.proofs.Asking.{askable, places_are}
use Rattle.lucid_top.proofs.Begun.{no_memory, same_contents}
use Rattle.lucid_top.proofs.Carrying.{seen_same, stopped_run}
use Rattle.lucid_top.proofs.Counting.{run_read, run_written}
use Rattle.lucid_top.proofs.running.run_program.Goals as goal

pub returns-in_err-inputs-clause-ran : goal.returns-in_err-inputs-clause-ran
returns-in_err-inputs-clause-ran g c =
    let p = err_from_is_err_and c.from_residual.result c.from_residual.ensures.1 in
    no_memory (table_program (plain_words c.args.terms.words.now) (table_of c.args.program))
    (under (policy_view g.R.Retire.keeps g.R.Retire.empties g.R.Retire.most c.args.terms.choices.policy)
    (viewed (plain_words c.args.terms.words.now) (c.args.reached.names.now) c.args.reached.numbers.items (g.P.Places.world c.args.places.now) (g.P.Places.world c.args.places.now)
    (told g.K.Sink.written g.K.Sink.faults g.K.Sink.late c.args.out.now) (told g.K.Sink.written g.K.Sink.faults g.K.Sink.late c.args.out.now)))
    c.from_residual.result p.0 p.1 p.2 refl (λ k n q is old new a b. same_contents _ old new a b)

pub run_streams-requires-clause-askable : goal.run_streams-requires-clause-askable
run_streams-requires-clause-askable g c =
    askable c.fresh_fits.ensures (streams c.in_ok-inputs.inputs) c.args.reached.numbers.items (g.P.Places.world c.args.places.now) c.in_ok-inputs.ensures.streams
    c.requires.unread

pub returns-in-Ok-clause-ran : goal.returns-in-Ok-clause-ran
returns-in-Ok-clause-ran g c =
    seen_same (table_program (plain_words c.args.terms.words.now) (table_of c.args.program)) (plain_words c.args.terms.words.now) (g.P.Places.world c.args.places.now)
    (g.P.Places.world c.run_streams.new.places)
    (told g.K.Sink.written g.K.Sink.faults g.K.Sink.late c.args.out.now) (told g.K.Sink.written g.K.Sink.faults g.K.Sink.late c.run_streams.new.out) (Ok c.in-Ok.summary)
    (policy_view g.R.Retire.keeps g.R.Retire.empties g.R.Retire.most c.args.terms.choices.policy)
    (table_of c.args.program).inputs c.args.reached.names.now (places_of (streams c.in_ok-inputs.inputs)) c.args.reached.numbers.items (most_bytes c.in_ok-inputs.inputs)
    (sym c.requires.names) (places_are (streams c.in_ok-inputs.inputs) c.args.reached.numbers.items c.in_ok-inputs.ensures.streams)
    c.in_ok-inputs.ensures.most
    (λ b has. (c.in-Ok.ensures.headline b has, c.in-Ok.ensures.figures b has))

pub returns-in-Err-clause-ran : goal.returns-in-Err-clause-ran
returns-in-Err-clause-ran g c =
    stopped_run (table_program (plain_words c.args.terms.words.now) (table_of c.args.program))
    (under (policy_view g.R.Retire.keeps g.R.Retire.empties g.R.Retire.most c.args.terms.choices.policy)
    (viewed (plain_words c.args.terms.words.now) (c.args.reached.names.now) c.args.reached.numbers.items (g.P.Places.world c.args.places.now)
    (g.P.Places.world c.run_streams.new.places) (told g.K.Sink.written g.K.Sink.faults g.K.Sink.late c.args.out.now)
    (told g.K.Sink.written g.K.Sink.faults g.K.Sink.late c.run_streams.new.out)))
    c.args.reached.names.now c.wants_figures-stats.result c.in-Err.fault c.run_stop.result c.run_stop.ensures
    (seen_same (table_program (plain_words c.args.terms.words.now) (table_of c.args.program)) (plain_words c.args.terms.words.now) (g.P.Places.world c.args.places.now)
    (g.P.Places.world c.run_streams.new.places)
    (told g.K.Sink.written g.K.Sink.faults g.K.Sink.late c.args.out.now) (told g.K.Sink.written g.K.Sink.faults g.K.Sink.late c.run_streams.new.out) (Err c.in-Err.fault)
    (policy_view g.R.Retire.keeps g.R.Retire.empties g.R.Retire.most c.args.terms.choices.policy)
    (table_of c.args.program).inputs c.args.reached.names.now (places_of (streams c.in_ok-inputs.inputs)) c.args.reached.numbers.items (most_bytes c.in_ok-inputs.inputs)
    (sym c.requires.names) (places_are (streams c.in_ok-inputs.inputs) c.args.reached.numbers.items c.in_ok-inputs.ensures.streams)
    c.in_ok-inputs.ensures.most
    (λ b has. (c.in-Err.ensures.headline b has, c.in-Err.ensures.figures b has)))

pub run_stop-requires : goal.run_stop-requires
run_stop-requires g c = subst (λ names. OnTooLarge c.in-Err.fault (λ number. number < length names)) (sym c.requires.names) c.in-Err.ensures.causes.too_large

pub returns-in-Ok-clause-others : goal.returns-in-Ok-clause-others
returns-in-Ok-clause-others g c k =
    subst (λ ns. In k ns ⊎ ((g.P.Places.world c.run_streams.new.places).place k ≡ (g.P.Places.world c.args.places.now).place k))
    (places_are (streams c.in_ok-inputs.inputs) c.args.reached.numbers.items c.in_ok-inputs.ensures.streams) (c.in-Ok.ensures.reads_only.others k)

pub returns-in-Err-clause-others : goal.returns-in-Err-clause-others
returns-in-Err-clause-others g c k =
    subst (λ ns. In k ns ⊎ ((g.P.Places.world c.run_streams.new.places).place k ≡ (g.P.Places.world c.args.places.now).place k))
    (places_are (streams c.in_ok-inputs.inputs) c.args.reached.numbers.items c.in_ok-inputs.ensures.streams) (c.in-Err.ensures.reads_only.others k)

pub returns-in-Ok-clause-bytes : goal.returns-in-Ok-clause-bytes
returns-in-Ok-clause-bytes g c k = c.in-Ok.ensures.reads_only.bytes k

pub returns-in-Err-clause-bytes : goal.returns-in-Err-clause-bytes
returns-in-Err-clause-bytes g c k = c.in-Err.ensures.reads_only.bytes k

pub returns-in-Err-clause-counts_no_read : goal.returns-in-Err-clause-counts_no_read
returns-in-Err-clause-counts_no_read g c =
    run_read c.args.reached.names.now c.wants_figures-stats.result c.in-Err.fault c.run_stop.result (g.P.Places.world c.args.places.now).faults
    (g.P.Places.world c.run_streams.new.places).faults c.run_stop.ensures c.in-Err.ensures.causes.no_other_read

pub returns-in-Err-clause-counts_no_write : goal.returns-in-Err-clause-counts_no_write
returns-in-Err-clause-counts_no_write g c =
    run_written c.args.reached.names.now c.wants_figures-stats.result c.in-Err.fault c.run_stop.result (g.K.Sink.faults c.args.out.now)
    (g.K.Sink.faults c.run_streams.new.out) c.run_stop.ensures c.in-Err.ensures.causes.no_other_write

pub returns-in-Ok-clause-asked : goal.returns-in-Ok-clause-asked
returns-in-Ok-clause-asked g c = c.in-Ok.ensures.reads_only.asked

pub returns-in-Err-clause-asked : goal.returns-in-Err-clause-asked
returns-in-Err-clause-asked g c = c.in-Err.ensures.reads_only.asked

pub returns-in-Ok-clause-read_late : goal.returns-in-Ok-clause-read_late
returns-in-Ok-clause-read_late g c = c.in-Ok.ensures.causes.read_late

pub returns-in-Err-clause-read_late : goal.returns-in-Err-clause-read_late
returns-in-Err-clause-read_late g c = c.in-Err.ensures.causes.read_late

pub returns-in-Ok-clause-write_late : goal.returns-in-Ok-clause-write_late
returns-in-Ok-clause-write_late g c = c.in-Ok.ensures.causes.write_late

pub returns-in-Err-clause-write_late : goal.returns-in-Err-clause-write_late
returns-in-Err-clause-write_late g c = c.in-Err.ensures.causes.write_late
