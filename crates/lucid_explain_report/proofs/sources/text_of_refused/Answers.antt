use Rattle.std.proofs.Common.{◌≡◌, true, subst, ◌∙◌}
use Rattle.std.proofs.lemmas.Result.{IfOk-weaker}
use Rattle.lucid_explain_source.specs.declared.fault.Fault.{Fault}
use Rattle.lucid_explain_source.specs.Sources.{Explains}
use Rattle.lucid_explain_report.specs.Stops.{stop_text}
use Rattle.lucid_explain_report.specs.Said.{TellsFault, its_own, another}
use Rattle.lucid_explain_report.proofs.sources.text_of_refused.Goals as goal

pub returns-then-is_same : goal.returns-then-is_same
returns-then-is_same c =
    let stopped = c.args.stopped.now in
    let P : Fault → Type 0 = λ f. Explains stopped.name.now stopped.source.now f c.args.said.text.items in
    its_own (subst P (c.is_same.ensures.0 c.if-is_same.true) c.requires)

pub returns-else-is_same : goal.returns-else-is_same
returns-else-is_same c =
    let stopped = c.args.stopped.now in
    IfOk-weaker c.from_slice.result (λ text. text.items ≡ c.stop_text.result.now)
    (λ text. TellsFault c.args.fault stopped.name.now stopped.source.now (stop_text stopped.stop.now) text.items)
    (λ text e.
    another c.args.said.fault c.args.said.text.items c.requires
    (λ same. let e : c.is_same.result ≡ true = c.is_same.ensures.1 same in let f = c.if-is_same.false in cc)
    (e ∙ c.stop_text.ensures)) c.from_slice.ensures.items
