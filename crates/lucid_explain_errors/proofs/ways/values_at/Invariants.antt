use Rattle.std.proofs.Common.{◌≡◌, map, take}
use Rattle.lucid_value.specs.View.{plain}
use Rattle.lucid_cert_rules.specs.Certificates.{plain_judgment}
use Rattle.lucid_explain_errors.specs.Ways.{value_at}
use Rattle.lucid_explain_errors.proofs.ways.values_at.Given as goal

abbrev pub invariant-loop-number : goal.invariant-loop-number
invariant-loop-number l = map plain l.values.items ≡ map (value_at (map plain_judgment l.judgments)) (take l.number-index l.numbers)
