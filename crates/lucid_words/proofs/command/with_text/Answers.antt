use Rattle.lucid_words.proofs.command.with_text.Goals as goal

pub returns : goal.returns
returns c = c.with.ensures _ c.text_option.ensures.rule
