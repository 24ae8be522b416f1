use Rattle.lucid_parse.proofs.Common.{◌≡◌, length, reverse, no_trees, trees_of, gather}
use Rattle.std.proofs.Common.{◌-◌}
use Rattle.lucid_parse.proofs.build.pop_parts.Given as goal

-- those that are taken go before those that are still to be
abbrev pub invariant-loop-i : goal.invariant-loop-i
invariant-loop-i l = record {
  taken : gather (l.count - l.i) l.trees (trees_of (reverse l.parts.items)) ≡ gather l.count l.initial.trees no_trees;
  as_many : length l.parts.items ≡ l.i;
}
