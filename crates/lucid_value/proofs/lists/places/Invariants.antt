use Rattle.lucid_value.proofs.Common.{◌≡◌, map, plain, onto}
use Rattle.lucid_value.proofs.lists.places.Given as goal

abbrev pub invariant-loop-rest : goal.invariant-loop-rest
invariant-loop-rest l = onto (map (λ v. plain v.now) l.items.items) l.rest ≡ l.initial.rest
