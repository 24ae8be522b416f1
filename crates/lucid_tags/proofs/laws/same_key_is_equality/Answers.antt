use Rattle.lucid_tags.specs.EqualityDecides.{same_key_is_equality}
use Rattle.lucid_tags.proofs.laws.same_key_is_equality.Goals as goal

pub returns : goal.returns
returns c = same_key_is_equality
