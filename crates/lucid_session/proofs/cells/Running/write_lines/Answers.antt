use Rattle.lucid_session.proofs.Common.{length, refl, sym, arith, err_from_is_err_and, start_of}
use Rattle.lucid_session.proofs.Steps.{begins_there, all_open, stopped_there, ended_there, cells_told, unwritten_there, written_there, counted_there, counts_after}
use Rattle.lucid_session.proofs.cells.Running.write_lines.Goals as goal

pub loop-time-init : goal.loop-time-init
loop-time-init g c = record {
  going = rw c.requires.none (begins_there _ _ refl c.requires.fresh.sound c.requires.fresh.askable refl c.requires.fresh.known c.requires.fresh.stored);
  marked = λ b has. all_open _ b _ c.requires.opened;
  counts = omega (arith, c.requires.none);
}

pub returns-in_err-goes_on : goal.returns-in_err-goes_on
returns-in_err-goes_on g c =
    let z = start_of c.args.options.now (length c.args.is_open.now) c.args.self.now.engine (g.P.Places.world c.args.places.now)
    (record { bytes = g.K.Sink.written c.args.out.now; faults = g.K.Sink.faults c.args.out.now; late = g.K.Sink.late c.args.out.now }) in
    let going = c.loop-time.invariant.going in
    let p = err_from_is_err_and c.from_residual.result c.from_residual.ensures.1 in
    rw (p.1, p.2)
    (stopped_there z _ _ _ _ _ _ _ _ going c.loop-time-test.true _
    (c.in_err-goes_on.ensures.cells z refl (sym c.loop-time.auto.is_open) going.standing c.loop-time.invariant.marked))

pub returns-then-not-goes_on : goal.returns-then-not-goes_on
returns-then-not-goes_on g c =
    let z = start_of c.args.options.now (length c.args.is_open.now) c.args.self.now.engine (g.P.Places.world c.args.places.now)
    (record { bytes = g.K.Sink.written c.args.out.now; faults = g.K.Sink.faults c.args.out.now; late = g.K.Sink.late c.args.out.now }) in
    let going = c.loop-time.invariant.going in
    let r = c.in_ok-goes_on.ensures.cells z refl (sym c.loop-time.auto.is_open) going.standing c.loop-time.invariant.marked in
    ended_there z _ _ _ _ _ _ _ _ going c.loop-time-test.true r.0 _ (cells_told z _ _ _ _ _ c.if-not-goes_on.true r.1) _ _ c.ended.ensures.many
    c.ended.ensures.one_for_each _ c.ended.ensures.summary

pub returns-in_err-write_line : goal.returns-in_err-write_line
returns-in_err-write_line g c =
    let z = start_of c.args.options.now (length c.args.is_open.now) c.args.self.now.engine (g.P.Places.world c.args.places.now)
    (record { bytes = g.K.Sink.written c.args.out.now; faults = g.K.Sink.faults c.args.out.now; late = g.K.Sink.late c.args.out.now }) in
    let going = c.loop-time.invariant.going in
    let r = c.in_ok-goes_on.ensures.cells z refl (sym c.loop-time.auto.is_open) going.standing c.loop-time.invariant.marked in
    let p = err_from_is_err_and c.from_residual-in_err-write_line.result c.from_residual-in_err-write_line.ensures.1 in
    rw (p.1, p.2)
    (unwritten_there z _ _ _ _ _ _ _ _ going c.loop-time-test.true r.0 _ (cells_told z _ _ _ _ _ c.if-not-goes_on.false r.1)
    (record { bytes = g.K.Sink.written c.write_line.new.out; faults = g.K.Sink.faults c.write_line.new.out; late = g.K.Sink.late c.write_line.new.out }) c.in_err-write_line.field-0.0
    c.in_err-write_line.ensures)

pub loop-time-preserved : goal.loop-time-preserved
loop-time-preserved g c =
    let z = start_of c.args.options.now (length c.args.is_open.now) c.args.self.now.engine (g.P.Places.world c.args.places.now)
    (record { bytes = g.K.Sink.written c.args.out.now; faults = g.K.Sink.faults c.args.out.now; late = g.K.Sink.late c.args.out.now }) in
    let going = c.loop-time.invariant.going in
    let r = c.in_ok-goes_on.ensures.cells z refl (sym c.loop-time.auto.is_open) going.standing c.loop-time.invariant.marked in
    record {
      going = written_there z _ _ _ _ _ _ _ _ going c.loop-time-test.true r.0 _ (cells_told z _ _ _ _ _ c.if-not-goes_on.false r.1) _ c.in_ok-write_line.ensures
          _ _ c.clear_many.ensures;
      marked = λ b has. (r.1 b has).0;
      counts = omega (arith, counts_after _ _ _ _ c.clear_many.ensures, c.in_ok-goes_on.ensures.counts, c.loop-time.invariant.counts);
    }

pub returns : goal.returns
returns g c =
    counted_there _ _ _ _ _ _ c.loop-time.invariant.going (omega (arith, c.loop-time-test.false, c.loop-time.auto.time-end)) c.summary.ensures.one_for_each
    c.summary.result c.summary.ensures.summary
