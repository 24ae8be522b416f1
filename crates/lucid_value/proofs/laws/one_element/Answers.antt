use Rattle.lucid_value.proofs.ElementRead.{one_element}
use Rattle.lucid_value.proofs.laws.one_element.Goals as goal

pub returns : goal.returns
returns c = one_element
