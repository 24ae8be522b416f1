use Rattle.lucid_store.proofs.Common.{◌≤◌, length, AllWithin}
use Rattle.lucid_store.proofs.ages.last_over.Given as goal

-- none is over the limit from the place on
abbrev pub invariant-loop-end : goal.invariant-loop-end
invariant-loop-end l = record {
  inside : l.end ≤ length l.ages;
  later : AllWithin (λ age. age ≤ l.limit) l.ages l.end (length l.ages);
}

abbrev pub decreases-loop-end : goal.decreases-loop-end
decreases-loop-end l = l.end
