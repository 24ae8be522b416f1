use Rattle.lucid_store.proofs.Common.{◌≡◌, drop, nat_le}
use Rattle.std.proofs.Common.{◌&&◌}
use Rattle.std.specs.List.{list_all}
use Rattle.lucid_store.proofs.ages.is_none_over.Given as goal

-- what was seen so far and what is left make the answer
abbrev pub invariant-loop-index : goal.invariant-loop-index
invariant-loop-index l = (l.none && list_all (λ age. nat_le age l.limit) (drop l.index l.ages)) ≡ list_all (λ age. nat_le age l.limit) l.ages
