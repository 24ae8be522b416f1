use Rattle.lucid_store.proofs.Common.{◌≡◌, ◌++◌, map, take, older, drop}
use Rattle.lucid_store.proofs.ages.raise_all.Given as goal

-- the ages so far have risen
abbrev pub invariant-loop-index : goal.invariant-loop-index
invariant-loop-index l = l.ages ≡ map older (take l.index l.initial.ages) ++ drop l.index l.initial.ages
