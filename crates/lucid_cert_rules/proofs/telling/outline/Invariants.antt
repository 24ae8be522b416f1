use Rattle.lucid_cert_rules.proofs.NeedCommon.{List, map}
use Rattle.lucid_cert_rules.specs.Certificates.{plain_judgment}
use Rattle.lucid_cert_rules.specs.Outlines.{Outlines}
use Rattle.lucid_cert_rules.specs.Walks.{TellsOn}
use Rattle.lucid_cert_rules.specs.declared.telling.Entry.{Entry}
use Rattle.lucid_cert_rules.proofs.telling.outline.Given as goal

-- what is told from here on is the outline
abbrev pub invariant-steps : goal.invariant-steps
invariant-steps l = (all : List Entry) → TellsOn l.table (map plain_judgment l.judgments) l.telling all → Outlines l.table (map plain_judgment l.judgments) l.number all
