use Rattle.std.proofs.Common.{Option, subst}
use Rattle.std.specs.Prelude.{IfNone}
use Rattle.lucid_scope.specs.declared.scoped.Scoped.{Scoped}
use Rattle.lucid_explain_source.specs.Accepted.{IsTurnedDown}
use Rattle.lucid_explain_run.specs.Judgments.{refused}
use Rattle.lucid_explain_run.proofs.judgment.text_of_row.Goals as goal

pub returns-in-None : goal.returns-in-None
returns-in-None c =
    let P : Option Scoped → Type 0 = λ o. IfNone o (IsTurnedDown c.args.judged.now.source.now) in
    refused c.args.row.node c.args.row.line c.requires (subst P c.in-None.is c.in_ok-scoped.ensures.refused) c.new.ensures.items
