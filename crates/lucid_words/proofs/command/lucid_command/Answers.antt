use Rattle.lucid_words.proofs.command.lucid_command.Goals as goal

pub returns : goal.returns
returns c = c.with_positionals.ensures _ (c.with_mode_options-command.ensures _ (c.with_run_options-command.ensures _ c.bare_command.ensures))
