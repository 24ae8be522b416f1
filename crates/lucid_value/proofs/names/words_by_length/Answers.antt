use Rattle.lucid_value.proofs.Common.{refl}
use Rattle.lucid_value.specs.Names.{reserved_of_length, reserved_words}
use Rattle.lucid_value.proofs.names.words_by_length.Goals as goal

pub returns : goal.returns
unfolding reserved_of_length reserved_words
returns c = refl
