use Rattle.std.proofs.Common.{◌≡◌, length}
use Rattle.lucid_ports.specs.MemoryView.{memory_world}
use Rattle.lucid_inputs.specs.Inputs.{AreAskable, streams}
use Rattle.lucid_test_outside.proofs.inputs.first_wrong.Given as goal

abbrev pub invariant-loop-number : goal.invariant-loop-number
invariant-loop-number l = record {
  askable : AreAskable l.inputs (memory_world l.places);
  count : length (streams l.inputs) ≡ 2;
  reached : (memory_world l.places).reached ≡ 2;
}
