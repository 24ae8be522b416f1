use Rattle.lucid_inputs.proofs.Common.{◌≡◌, ◌+◌, ◌-◌, cond, ReadsOn, IsWithin, stream_of}
use Rattle.lucid_ports.specs.Faults.{AsksNoneLate}
use Rattle.lucid_inputs.proofs.stream.InputStream.read_on.Given as goal

abbrev pub invariant-pieces : goal.invariant-pieces
invariant-pieces g l = record {
  on : ReadsOn l.index (stream_of l.initial.self) (stream_of l.self) (g.P.Places.world l.initial.places) (g.P.Places.world l.places);
  faults : (g.P.Places.world l.places).faults ≡ (g.P.Places.world l.initial.places).faults;
  late : AsksNoneLate (g.P.Places.world l.initial.places) (g.P.Places.world l.places);
  within : IsWithin (stream_of l.self) l.most;
}

abbrev pub decreases-pieces : goal.decreases-pieces
decreases-pieces g l = (l.most - l.self.consumed) + cond l.self.ended 0 1
