use Rattle.lucid_value.proofs.Common.{◌≡◌, ◌≤◌, map, IsTrue, weights, nestings, all_well_formed, plain, joined, onto, vec_len}
use Rattle.std.proofs.Common.{◌+◌}
use Rattle.lucid_value.proofs.lists.join.Given as goal

abbrev pub invariant-loop-item : goal.invariant-loop-item
invariant-loop-item l = record {
  same : onto (map (λ v. plain v.now) l.items.items) l.made ≡ joined l.left l.initial.made;
  light : weights (onto (map (λ v. plain v.now) l.items.items) l.made) + 1 ≤ 65536;
  flat : nestings (onto (map (λ v. plain v.now) l.items.items) l.made) + 1 ≤ 64;
  formed : IsTrue (all_well_formed (onto (map (λ v. plain v.now) l.items.items) l.made));
}

abbrev pub decreases-loop-item : goal.decreases-loop-item
decreases-loop-item l = vec_len l.items
