use Rattle.lucid_show_command.proofs.Common.{map, Some, None, sym}
use Rattle.std.proofs.Common.{append-nil}
use Rattle.std.specs.Prelude.{codes}
use Rattle.clap.specs.Words.{found_of}
use Rattle.lucid_words.proofs.Found.{all_is}
use Rattle.lucid_show_command.proofs.words.add_inputs.Goals as goal

pub returns-in-Some : goal.returns-in-Some
returns-in-Some c = rw (all_is (found_of c.args.matches.now) (codes "input") (Some (map (λ v. v.now) c.in-Some.texts.now)) c.in-Some.ensures) c.add_words.ensures

pub returns-in-None : goal.returns-in-None
returns-in-None c = rw (all_is (found_of c.args.matches.now) (codes "input") None c.in-None.ensures) (sym (append-nil _))
