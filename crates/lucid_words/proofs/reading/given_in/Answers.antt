use Rattle.lucid_words.proofs.Common.{map, Some, None, refl}
use Rattle.std.proofs.Common.{codes}
use Rattle.clap.specs.Words.{found_of}
use Rattle.lucid_words.proofs.Found.{all_is}
use Rattle.lucid_words.proofs.reading.given_in.Goals as goal

pub returns-in-Some : goal.returns-in-Some
returns-in-Some c = rw (all_is (found_of c.args.matches.now) (codes "input") (Some (map (λ v. v.now) c.in-Some.texts.now)) c.in-Some.ensures) c.all_given.ensures

pub returns-in-None : goal.returns-in-None
returns-in-None c = rw (all_is (found_of c.args.matches.now) (codes "input") None c.in-None.ensures, c.new.ensures.items) refl
