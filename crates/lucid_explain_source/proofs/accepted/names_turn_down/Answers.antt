use Rattle.lucid_explain_source.specs.Accepted.{by_names}
use Rattle.lucid_explain_source.proofs.accepted.names_turn_down.Goals as goal

pub returns : goal.returns
returns c = by_names c.args.tree.now c.args.refusal.now c.requires.spelt c.requires.refused
