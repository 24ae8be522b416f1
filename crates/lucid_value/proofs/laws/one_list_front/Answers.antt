use Rattle.lucid_value.proofs.OneReading.{one_list_front}
use Rattle.lucid_value.proofs.laws.one_list_front.Goals as goal

pub returns : goal.returns
returns c = one_list_front
