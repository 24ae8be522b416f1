use Rattle.lucid_words.specs.Asked.{plain_words}
use Rattle.lucid_explain_command.specs.Prompted.{no_run}
use Rattle.lucid_explain_command.proofs.prompt.prompt_of_none.Goals as goal

pub returns : goal.returns
returns g c = no_run (plain_words c.args.asked.now) c.requires.read c.requires.no_file c.new.ensures.items
