use Rattle.lucid_tags.specs.EqualityDecides.{same_context_is_equality}
use Rattle.lucid_tags.proofs.laws.same_context_is_equality.Goals as goal

pub returns : goal.returns
returns c = same_context_is_equality
