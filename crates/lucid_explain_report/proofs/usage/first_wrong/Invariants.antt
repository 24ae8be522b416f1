use Rattle.std.proofs.Common.{◌≡◌, ℕ, ◌+◌, ◌<◌, true, map, take}
use Rattle.std.specs.String.{string_bytes}
use Rattle.lucid_explain_report.specs.Said.{goes_on}
use Rattle.lucid_explain_report.proofs.usage.first_wrong.Given as goal

abbrev pub invariant-loop-count : goal.invariant-loop-count
invariant-loop-count l = (j : ℕ) → j < l.count → goes_on (map string_bytes (take (j + 1) l.words)) ≡ true
