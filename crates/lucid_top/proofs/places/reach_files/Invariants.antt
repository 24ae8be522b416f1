use Rattle.lucid_top.proofs.Common.{◌≡◌, ◌+◌, ◌++◌, map, range_with_len, KeepsNames, AreKept, AreFresh}
use Rattle.std.proofs.Common.{take}
use Rattle.lucid_ports.specs.Faults.{AsksNoneLate}
use Rattle.lucid_top.proofs.places.reach_files.Given as goal

abbrev pub invariant-loop-file : goal.invariant-loop-file
invariant-loop-file g l = record {
  numbers : l.numbers.items ≡ range_with_len (g.P.Places.world l.initial.places).reached l.file-index;
  reached : (g.P.Places.world l.places).reached ≡ (g.P.Places.world l.initial.places).reached + l.file-index;
  asked : (g.P.Places.world l.places).asked ≡ (g.P.Places.world l.initial.places).asked ++ take l.file-index (map (λ file. file.now) l.files);
  fresh : AreFresh (map (λ file. file.now) l.files) (g.P.Places.world l.initial.places) (g.P.Places.world l.places);
  others : AreKept (g.P.Places.world l.initial.places) (g.P.Places.world l.places);
  no_read_failed : (g.P.Places.world l.places).faults ≡ (g.P.Places.world l.initial.places).faults;
  late : AsksNoneLate (g.P.Places.world l.initial.places) (g.P.Places.world l.places);
  keeps : KeepsNames (g.P.Places.world l.initial.places) (g.P.Places.world l.places);
}
