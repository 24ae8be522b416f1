-- The runs of the code, and judgments that are lent, in plain data.
use Rattle.std.specs.Prelude.{List, map}
use Rattle.std.specs.Borrow.{Bor}
use Rattle.lucid_value.specs.View.{plain}
use Rattle.lucid_cert_rules.specs.Certificates.{PlainJudgment, plain_judgment}
use Rattle.lucid_cert_rules.specs.declared.rows.JudgmentRow.{JudgmentRow}
use Rattle.lucid_show_outline.specs.declared.runs.Run.{Run as Code}
use Rattle.lucid_show_outline.specs.Tests.{Run}

abbrev pub plain_run : Code → Run
plain_run r = record { value = plain r.value.now; first = r.first; last = r.last }

abbrev pub lent_judgments : List (Bor JudgmentRow) → List PlainJudgment
lent_judgments rows = map (λ (row : Bor JudgmentRow). plain_judgment row.now) rows
