use Rattle.lucid_words.proofs.Common.{option_map}
use Rattle.std.proofs.Common.{codes}
use Rattle.clap.specs.Words.{found_of}
use Rattle.lucid_words.proofs.Found.{first_is}
use Rattle.lucid_words.proofs.reading.check_in.Goals as goal

pub returns : goal.returns
returns c = rw (first_is (found_of c.args.matches.now) (codes "check") (option_map (λ s. s.now) c.get_str.result) c.get_str.ensures) c.check_of.ensures
