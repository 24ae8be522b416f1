use Rattle.lucid_value.proofs.Common.{◌≡◌, no_items, weights, turned}
use Rattle.std.proofs.Common.{◌+◌}
use Rattle.lucid_value.proofs.list_scan.turn.Given as goal

abbrev pub invariant-loop-rest : goal.invariant-loop-rest
invariant-loop-rest l = record {
  same : turned l.rest l.made ≡ turned l.fn.list no_items;
  light : weights l.rest + weights l.made ≡ weights l.fn.list;
}
