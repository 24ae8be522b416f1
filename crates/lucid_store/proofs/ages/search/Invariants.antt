use Rattle.lucid_store.proofs.Common.{◌≤◌, length, AllWithin}
use Rattle.lucid_store.proofs.ages.search.Given as goal

-- none is over the limit from the place on
abbrev pub invariant-loop-index : goal.invariant-loop-index
invariant-loop-index l = AllWithin (λ age. age ≤ l.limit) l.ages l.index (length l.ages)
