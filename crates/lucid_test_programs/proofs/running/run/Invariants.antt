use Rattle.lucid_test_programs.proofs.Common.{◌≤◌, elements_of, Writes}
use Rattle.lucid_test_programs.proofs.running.run.Given as goal

abbrev pub invariant-loop-time : goal.invariant-loop-time
invariant-loop-time g l = record {
  writes : Writes (elements_of l.streams) l.options.depth l.tree l.time (g.K.Sink.written l.initial.out) (g.K.Sink.written l.out);
  count : g.K.Sink.faults l.initial.out ≤ g.K.Sink.faults l.out;
}
