use Rattle.lucid_show_command.proofs.Common.{sym}
use Rattle.std.specs.Option.{option_map}
use Rattle.clap.specs.Words.{found_of}
use Rattle.lucid_words.proofs.Found.{first_is}
use Rattle.lucid_show_command.proofs.words.text_of.Goals as goal

pub returns : goal.returns
returns c = sym (first_is (found_of c.args.matches.now) c.args.name.now (option_map (λ s. s.now) c.get_str.result) c.get_str.ensures)
