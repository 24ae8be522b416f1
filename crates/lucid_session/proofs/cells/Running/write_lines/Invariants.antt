use Rattle.lucid_session.proofs.Common.{length, ◌≤◌, Elements, start_of, Has, AreMarked, ◌*◌}
use Rattle.lucid_session.proofs.Writing.{Going}
use Rattle.lucid_session.proofs.cells.Running.write_lines.Given as goal

abbrev pub invariant-loop-time : goal.invariant-loop-time
invariant-loop-time g l = record {
  going : Going (start_of l.options (length l.fn.is_open) l.fn.self.engine (g.P.Places.world l.fn.places)
      (record { bytes = g.K.Sink.written l.fn.out; faults = g.K.Sink.faults l.fn.out; late = g.K.Sink.late l.fn.out })) l.self.engine (g.P.Places.world l.places)
      (record { bytes = g.K.Sink.written l.out; faults = g.K.Sink.faults l.out; late = g.K.Sink.late l.out }) l.time l.self.cleared;
  marked : (b : Elements)
      → Has (start_of l.options (length l.fn.is_open) l.fn.self.engine (g.P.Places.world l.fn.places)
      (record { bytes = g.K.Sink.written l.fn.out; faults = g.K.Sink.faults l.fn.out; late = g.K.Sink.late l.fn.out })) b
      → AreMarked (start_of l.options (length l.fn.is_open) l.fn.self.engine (g.P.Places.world l.fn.places)
      (record { bytes = g.K.Sink.written l.fn.out; faults = g.K.Sink.faults l.fn.out; late = g.K.Sink.late l.fn.out })) b l.time 0 l.is_open;
  counts : l.self.cleared ≤ 17 * l.time;
}
