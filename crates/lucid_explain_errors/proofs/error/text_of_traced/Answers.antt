use Rattle.std.proofs.Common.{Option, subst}
use Rattle.std.specs.Prelude.{IfNone}
use Rattle.lucid_scope.specs.declared.scoped.Scoped.{Scoped}
use Rattle.lucid_explain_source.specs.Accepted.{IsTurnedDown}
use Rattle.lucid_explain_errors.specs.Errors.{refused}
use Rattle.lucid_explain_errors.proofs.error.text_of_traced.Goals as goal

pub returns-in-None : goal.returns-in-None
returns-in-None c =
    let P : Option Scoped → Type 0 = λ o. IfNone o (IsTurnedDown c.args.read.now.source.now) in
    refused (subst P c.in-None.is c.in_ok-scoped.ensures.refused) c.new.ensures.items
