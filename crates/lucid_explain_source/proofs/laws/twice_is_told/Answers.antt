use Rattle.lucid_explain_source.proofs.Twice.{twice_told}
use Rattle.lucid_explain_source.proofs.laws.twice_is_told.Goals as goal

pub returns : goal.returns
returns c = twice_told c.tokens_are_in_order.ensures
