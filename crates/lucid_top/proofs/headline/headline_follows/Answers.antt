use Rattle.lucid_top.proofs.Headlines.{headline-follows}
use Rattle.lucid_top.proofs.headline.headline_follows.Goals as goal

pub returns : goal.returns
returns c = headline-follows
