use Rattle.lucid_explain_source.specs.Sources.{by_names}
use Rattle.lucid_explain_source.proofs.sources.said_of_names.Goals as goal

pub returns : goal.returns
returns c = by_names c.args.tree.now c.args.refusal.now c.requires.spelt c.requires.refused c.in-Some.ensures c.in_ok-text.ensures
