use Rattle.lucid_value.proofs.OneReading.{one_line_reading}
use Rattle.lucid_value.proofs.laws.one_line_reading.Goals as goal

pub returns : goal.returns
returns c = one_line_reading
