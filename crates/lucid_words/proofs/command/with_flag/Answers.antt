use Rattle.lucid_words.proofs.command.with_flag.Goals as goal

pub returns : goal.returns
returns c = c.with.ensures _ c.flag.ensures.rule
