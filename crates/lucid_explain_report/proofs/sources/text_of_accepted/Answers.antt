use Rattle.std.proofs.Common.{◌≡◌, ◌∙◌}
use Rattle.std.proofs.lemmas.Result.{IfOk-weaker}
use Rattle.lucid_explain_report.specs.Stops.{stop_text}
use Rattle.lucid_explain_report.specs.Said.{TellsFault, accepted}
use Rattle.lucid_explain_report.proofs.sources.text_of_accepted.Goals as goal

pub returns : goal.returns
returns c =
    let stopped = c.args.stopped.now in
    IfOk-weaker c.from_slice.result (λ text. text.items ≡ c.stop_text.result.now)
    (λ text. TellsFault c.args.fault stopped.name.now stopped.source.now (stop_text stopped.stop.now) text.items)
    (λ text e. accepted c.requires (e ∙ c.stop_text.ensures)) c.from_slice.ensures.items
