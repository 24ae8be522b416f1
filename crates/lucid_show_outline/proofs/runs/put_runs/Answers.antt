use Rattle.std.proofs.Common.{ℕ, ◌+◌, List, ◌∷◌, ◌++◌, drop, ap, sym, ◌∙◌}
use Rattle.std.specs.Borrow.{Bor}
use Rattle.lucid_cert_rules.specs.Certificates.{plain_judgment}
use Rattle.lucid_cert_rules.specs.declared.rows.JudgmentRow.{JudgmentRow}
use Rattle.lucid_show_outline.specs.Tests.{runs_from}
use Rattle.lucid_show_outline.specs.Runs.{lent_judgments, plain_run}
use Rattle.lucid_show_outline.proofs.Loops.{runs_more}
use Rattle.lucid_show_outline.proofs.runs.put_runs.Goals as goal

pub loop-row-preserved : goal.loop-row-preserved
loop-row-preserved c =
    c.in_ok-run.ensures (lent_judgments (drop (c.loop-row.row-index + 1) c.args.more.now))
    ∙ ap (λ (z : List ℕ). c.loop-row.to.items ++ z)
    (ap (λ (d : Bor JudgmentRow). runs_from (plain_run c.loop-row.run) (plain_judgment d.now ∷ lent_judgments (drop (c.loop-row.row-index + 1) c.args.more.now))) c.row-item.is
    ∙ sym (runs_more (plain_run c.loop-row.run) c.args.more.now c.loop-row.row-index c.row-item.result c.loop-row-test.true))
    ∙ c.loop-row.invariant
