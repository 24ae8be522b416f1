use Rattle.lucid_explain_source.proofs.Common.{◌≡◌, ◌++◌, take, codes, flat_map}
use Rattle.lucid_explain_source.specs.Definitions.{name_text}
use Rattle.lucid_explain_source.proofs.definitions.put_names.Given as goal

abbrev pub invariant-loop-other : goal.invariant-loop-other
invariant-loop-other l =
    l.text.items ≡ l.initial.text.items ++ flat_map (λ n. codes ", " ++ name_text n) (take l.other-index l.others)
