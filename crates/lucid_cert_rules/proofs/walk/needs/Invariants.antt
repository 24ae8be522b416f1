use Rattle.lucid_cert_rules.proofs.NeedCommon.{ℕ, List, map}
use Rattle.lucid_cert_rules.specs.Certificates.{plain_judgment}
use Rattle.lucid_cert_rules.specs.Needs.{Needs}
use Rattle.lucid_cert_rules.specs.Walks.{Comes}
use Rattle.lucid_cert_rules.proofs.walk.needs.Given as goal

-- what the walk comes to, it comes to from the beginning
abbrev pub invariant-steps : goal.invariant-steps
invariant-steps l = (all : List ℕ) → Comes l.table (map plain_judgment l.judgments) l.walk all → Needs l.table (map plain_judgment l.judgments) l.fn.number all
