use Rattle.lucid_words.proofs.command.with_number.Goals as goal

pub returns : goal.returns
returns c = c.with.ensures _ c.number_option.ensures.rule
