use Rattle.lucid_flat.proofs.Common.{arith}
use Rattle.lucid_flat.proofs.Rising.{too_early}
use Rattle.lucid_flat.proofs.gather.Rows.add.Goals as goal

pub returns-then-part_number : goal.returns-then-part_number
returns-then-part_number c = too_early _ _ (omega (arith, c.requires.begun.part))
