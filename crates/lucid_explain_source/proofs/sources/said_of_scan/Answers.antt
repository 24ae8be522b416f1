use Rattle.std.proofs.Common.{ℕ, List, ◌++◌, ap, ◌∙◌}
use Rattle.lucid_explain_source.specs.Advice.{scan_text}
use Rattle.lucid_explain_source.specs.Sources.{by_scan}
use Rattle.lucid_explain_source.proofs.sources.said_of_scan.Goals as goal

pub returns : goal.returns
returns c =
    by_scan c.args.refusal c.requires.known c.requires.refused c.in-Some.ensures
    (c.in_ok-put_scan.ensures ∙ ap (λ (z : List ℕ). z ++ scan_text c.args.file.now c.args.source.now c.args.refusal) c.new-text.ensures.items)
