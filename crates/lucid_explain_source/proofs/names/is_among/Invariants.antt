use Rattle.lucid_explain_source.proofs.Common.{◌≡◌, drop, list_any}
use Rattle.lucid_value.specs.Plain.{same_bytes}
use Rattle.lucid_explain_source.proofs.names.is_among.Given as goal

abbrev pub invariant-loop-other : goal.invariant-loop-other
invariant-loop-other l = list_any (λ n. same_bytes n l.name) l.names ≡ list_any (λ n. same_bytes n l.name) (drop l.other-index l.names)
