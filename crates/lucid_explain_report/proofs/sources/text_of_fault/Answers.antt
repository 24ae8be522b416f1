use Rattle.std.proofs.Common.{Option, subst}
use Rattle.std.specs.Prelude.{IfSome, IfNone}
use Rattle.lucid_explain_source.specs.declared.sources.Explanation.{Explanation}
use Rattle.lucid_explain_source.specs.Accepted.{IsAccepted}
use Rattle.lucid_explain_source.specs.Sources.{Explains}
use Rattle.lucid_explain_report.proofs.sources.text_of_fault.Goals as goal

pub text_of_refused-requires : goal.text_of_refused-requires
text_of_refused-requires c =
    let P : Option Explanation → Type 0 = λ o. IfSome o (λ said. Explains c.args.stopped.now.name.now c.args.stopped.now.source.now said.fault said.text.items) in
    subst P c.in-Some.is c.in_ok-said.ensures.refused

pub text_of_accepted-requires : goal.text_of_accepted-requires
text_of_accepted-requires c =
    let P : Option Explanation → Type 0 = λ o. IfNone o (IsAccepted c.args.stopped.now.source.now) in
    subst P c.in-None.is c.in_ok-said.ensures.accepted
