use Rattle.std.proofs.Common.{sym}
use Rattle.lucid_words.specs.Asked.{plain_words}
use Rattle.lucid_explain_command.specs.Errors.{no_run}
use Rattle.lucid_explain_command.proofs.errors.text_of_call.Goals as goal

pub returns-in-None : goal.returns-in-None
returns-in-None g c = no_run (plain_words c.args.asked.now) c.requires (sym c.in-None.ensures) c.new.ensures.items
