use Rattle.lucid_value.proofs.OneReading.{one_reading}
use Rattle.lucid_value.proofs.laws.one_reading.Goals as goal

pub returns : goal.returns
returns c = one_reading
