use Rattle.lucid_flat.proofs.Common.{refl, op_of}
use Rattle.lucid_flat.proofs.ops.op_of.Goals as goal

pub returns : goal.returns
unfolding op_of
returns c = c.op_among.ensures refl
