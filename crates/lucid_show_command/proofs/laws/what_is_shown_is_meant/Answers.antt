use Rattle.lucid_show_command.proofs.MeantWhole.{what_is_shown_is_meant}
use Rattle.lucid_show_command.proofs.laws.what_is_shown_is_meant.Goals as goal

pub returns : goal.returns
returns c = what_is_shown_is_meant c.what_follows_is_meant.ensures c.one_why.ensures
