use Rattle.std.proofs.Common.{ℕ, List, ◌++◌, refl, ap, ◌∙◌}
use Rattle.lucid_explain_source.specs.Sources.{depth_text, by_depth}
use Rattle.lucid_explain_source.proofs.sources.said_of_depth.Goals as goal

pub returns : goal.returns
returns c =
    by_depth c.args.tokens.now c.args.at (record { short = c.requires.short; listed = c.requires.scanned }) c.requires.refused refl
    (c.in_ok-put_depth.ensures ∙ ap (λ (z : List ℕ). z ++ depth_text c.args.file.now c.args.source.now c.args.at) c.new-text.ensures.items)
