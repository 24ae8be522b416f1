use Rattle.lucid_show_command.proofs.Common.{Some, None, refl}
use Rattle.clap.specs.Words.{found_of}
use Rattle.lucid_words.proofs.Found.{first_is}
use Rattle.lucid_show_command.proofs.words.is_given.Goals as goal

pub returns-in-Some : goal.returns-in-Some
returns-in-Some c = rw (first_is (found_of c.args.matches.now) c.args.name.now (Some c.in-Some.field-0.now) c.in-Some.ensures) refl

pub returns-in-None : goal.returns-in-None
returns-in-None c = rw (first_is (found_of c.args.matches.now) c.args.name.now None c.in-None.ensures) refl
