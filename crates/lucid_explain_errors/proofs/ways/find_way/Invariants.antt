use Rattle.std.proofs.Common.{ℕ, List, ◌++◌, map}
use Rattle.lucid_cert_rules.specs.Certificates.{plain_judgment}
use Rattle.lucid_explain_errors.specs.Ways.{Leads}
use Rattle.lucid_explain_errors.proofs.ways.find_way.Given as goal

-- what the way from here passes stands behind what was passed
abbrev pub invariant-steps : goal.invariant-steps
invariant-steps l =
    (more : List ℕ) (end : ℕ) → Leads l.traced (map plain_judgment l.judgments) l.at more end
    → Leads l.traced (map plain_judgment l.judgments) l.number (l.passed.items ++ more) end

-- each step leads to an earlier judgment
abbrev pub decreases-steps : goal.decreases-steps
decreases-steps l = l.at
