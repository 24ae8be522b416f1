use Rattle.std.proofs.Common.{Option, subst}
use Rattle.std.specs.Prelude.{IfNone}
use Rattle.lucid_explain_run.specs.declared.rows.Row.{Row}
use Rattle.lucid_explain_run.specs.Judgments.{HasNoRow, no_row}
use Rattle.lucid_explain_run.proofs.judgment.explain_judgment.Goals as goal

pub returns-in-None : goal.returns-in-None
returns-in-None c =
    let P : Option Row → Type 0 = λ o. IfNone o (HasNoRow c.args.certificate.now c.args.number) in
    no_row (subst P c.in-None.is c.in_ok-row.ensures.none) c.new.ensures.items
