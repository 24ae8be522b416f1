use Rattle.std.proofs.Common.{Option, refl, ap, sym, ◌∙◌, arith}
use Rattle.std.specs.Borrow.{Bor}
use Rattle.std.specs.Option.{option_map}
use Rattle.lucid_cert_rules.specs.Certificates.{plain_judgment}
use Rattle.lucid_cert_rules.specs.declared.rows.JudgmentRow.{JudgmentRow}
use Rattle.lucid_explain_run.specs.Judgments.{too_few}
use Rattle.lucid_explain_run.proofs.rows.row_in.Goals as goal

pub returns-in-Some-clause-row : goal.returns-in-Some-clause-row
returns-in-Some-clause-row c = record {
  why = c.args.why.now;
  text = c.requires;
  judgment = plain_judgment c.in-Some.judgment.now;
  stands = sym c.judgment_at.ensures.row ∙ ap (λ (o : Option (Bor JudgmentRow)). option_map (λ (row : Bor JudgmentRow). plain_judgment row.now) o) c.in-Some.is;
  node_is = refl;
  line_is = grind (arith, c.items.ensures);
}

pub returns-in-None-clause-none : goal.returns-in-None-clause-none
returns-in-None-clause-none c =
    too_few c.args.why.now c.requires
    (sym c.judgment_at.ensures.row ∙ ap (λ (o : Option (Bor JudgmentRow)). option_map (λ (row : Bor JudgmentRow). plain_judgment row.now) o) c.in-None.is)
