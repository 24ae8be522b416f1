use Rattle.lucid_explain_places.proofs.Common.{◌≡◌, ◌++◌, take, codes, flat_map}
use Rattle.lucid_explain_places.specs.Syntax.{told_of}
use Rattle.lucid_explain_places.proofs.syntax.put_told.Given as goal

abbrev pub invariant-loop-other : goal.invariant-loop-other
invariant-loop-other l =
    l.text.items ≡ l.initial.text.items ++ flat_map (λ c. codes ", " ++ told_of c) (take l.other-index l.others)
