use Rattle.lucid_flat.proofs.FirstLine.{whole_by}
use Rattle.lucid_flat.proofs.read.FlatLinesLines.is_whole.Goals as goal

pub returns-then-self : goal.returns-then-self
returns-then-self c = whole_by c.one_value.ensures c.args.self.now c.requires c.is_whole.result c.is_whole.ensures c.if-self.true
