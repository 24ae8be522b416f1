use Rattle.lucid_value.proofs.TextRead.{text_is_read}
use Rattle.lucid_value.proofs.laws.text_is_read.Goals as goal

pub returns : goal.returns
returns c = text_is_read
