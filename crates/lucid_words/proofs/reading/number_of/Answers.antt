use Rattle.lucid_words.proofs.Common.{ParsesUnsigned, ExplainsUnsignedError, HasUnsignedDigitsIfOk}
use Rattle.clap.specs.Words.{found_of}
use Rattle.lucid_words.proofs.Found.{number_is}
use Rattle.lucid_words.proofs.reading.number_of.Goals as goal

pub returns : goal.returns
returns c =
    number_is _ 32 (found_of c.args.matches.now) c.args.name.now c.get_one.result
    (λ bs r. ParsesUnsigned 32 10 bs r × ExplainsUnsignedError 10 bs r × HasUnsignedDigitsIfOk bs r) (λ u x g. g.0) c.get_one.ensures.none
    c.get_one.ensures.value
