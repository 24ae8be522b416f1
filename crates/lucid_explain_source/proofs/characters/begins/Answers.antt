use Rattle.lucid_explain_source.specs.Characters.{begins}
use Rattle.lucid_explain_source.proofs.characters.begins.Goals as goal

pub returns : goal.returns
unfolding begins
returns c = c.starts_with.ensures.value
