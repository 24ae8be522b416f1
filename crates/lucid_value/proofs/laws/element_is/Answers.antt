use Rattle.lucid_value.proofs.ElementRead.{element_is}
use Rattle.lucid_value.proofs.laws.element_is.Goals as goal

pub returns : goal.returns
returns c = element_is
