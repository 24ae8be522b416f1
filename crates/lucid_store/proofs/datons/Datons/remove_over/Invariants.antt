use Rattle.lucid_store.proofs.Common.{◌≡◌, ◌≤◌, length, option_and_then, AllWithin, lookup, Key, same_key, ages_of, within}
use Rattle.lucid_store.proofs.datons.Datons.remove_over.Given as goal

-- of the entries that were over the limit some are gone, and none is left at the place or later
abbrev pub invariant-loop-index : goal.invariant-loop-index
invariant-loop-index l = record {
  each : (q : Key) → option_and_then (within l.limit) (lookup (same_key q) l.self) ≡ option_and_then (within l.limit) (lookup (same_key q) l.initial.self);
  later : AllWithin (λ age. age ≤ l.limit) (ages_of l.self) l.end (length l.self);
  inside : l.end ≤ length l.self;
  count : length l.self ≤ length l.initial.self;
}

abbrev pub decreases-loop-index : goal.decreases-loop-index
decreases-loop-index l = l.end
