use Rattle.lucid_parse.proofs.Answered.{tokens-one}
use Rattle.lucid_parse.proofs.laws.tokens_spell_one_tree.Goals as goal

pub returns : goal.returns
returns c = λ source ts t u g h. tokens-one c.terminals_are_unique.ensures source ts t u g h
