use Rattle.lucid_texts.proofs.ValueLemmas.{one_value}
use Rattle.lucid_texts.proofs.laws.one_value.Goals as goal

pub returns : goal.returns
returns c = one_value c.text_is_read.ensures c.one_line_reading.ensures
