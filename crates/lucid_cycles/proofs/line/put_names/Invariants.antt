use Rattle.lucid_cycles.proofs.Common.{◌≡◌, ◌++◌, take, codes, flat_map, text_at}
use Rattle.lucid_cycles.proofs.line.put_names.Given as goal

abbrev pub invariant-loop-number : goal.invariant-loop-number
invariant-loop-number l =
    l.line.items ≡ l.initial.line.items ++ flat_map (λ y. codes ", " ++ text_at l.found y) (take l.number-index l.others)
