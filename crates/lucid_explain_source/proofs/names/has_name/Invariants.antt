use Rattle.lucid_explain_source.proofs.Common.{◌≡◌, drop, lent, list_any}
use Rattle.lucid_value.specs.Plain.{same_bytes}
use Rattle.lucid_explain_source.proofs.names.has_name.Given as goal

abbrev pub invariant-loop-other : goal.invariant-loop-other
invariant-loop-other l = list_any (λ other. same_bytes other.name l.name) (lent l.these) ≡ list_any (λ other. same_bytes other.name l.name)
    (lent (drop l.other-index l.these))
