use Rattle.lucid_ports.proofs.Common.{◌≡◌, ℕ, ◌≤◌, ◌-◌, length, with_front}
use Rattle.lucid_ports.specs.Writing.{Writes}
use Rattle.lucid_ports.proofs.writing.write_whole.Given as goal

abbrev pub invariant-loop-done : goal.invariant-loop-done
invariant-loop-done g l = record {
  within : l.done ≤ length l.piece;
  written : g.K.Sink.written l.sink ≡ with_front l.done l.piece (g.K.Sink.written l.initial.sink);
  taken : (n : ℕ) × Writes g.K.Sink.write_gives n l.initial.sink l.sink;
  faults : g.K.Sink.faults l.sink ≡ g.K.Sink.faults l.initial.sink;
  late : g.K.Sink.faults l.initial.sink ≡ 0 → g.K.Sink.late l.sink ≡ g.K.Sink.late l.initial.sink;
}

abbrev pub decreases-loop-done : goal.decreases-loop-done
decreases-loop-done g l = length l.piece - l.done
