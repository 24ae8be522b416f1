use Rattle.lucid_session.proofs.Carrying.{figures_too}
use Rattle.lucid_session.proofs.laws.figures_carry.Goals as goal

pub returns : goal.returns
returns c = figures_too
