use Rattle.lucid_flat.proofs.SoundCommon.{arith}
use Rattle.lucid_flat.proofs.NestMade.{next-low}
use Rattle.lucid_flat.proofs.Leaping.{inner-some, parent-depth, parent-round}
use Rattle.lucid_flat.proofs.nest.Nest.further.Goals as goal

pub returns-else-index-level-clause-less : goal.returns-else-index-level-clause-less
returns-else-index-level-clause-less c =
    next-low c.args.rows.now c.requires.right c.args.at c.requires.known
    (inner-some c.args.rows.now c.requires.right _ _ c.requires.nest c.args.at c.args.level c.requires.known c.requires.deeper)

pub returns-else-index-level-clause-round : goal.returns-else-index-level-clause-round
returns-else-index-level-clause-round c = parent-round c.args.rows.now c.requires.right _ _ c.requires.nest c.args.at c.requires.known

pub returns-else-index-level-clause-deep : goal.returns-else-index-level-clause-deep
returns-else-index-level-clause-deep c =
    let some = inner-some c.args.rows.now c.requires.right _ _ c.requires.nest c.args.at c.args.level c.requires.known c.requires.deeper in
    let more = parent-depth c.args.rows.now c.requires.right _ _ c.requires.nest c.args.at c.requires.known some in
    omega (arith, more, c.requires.deeper)
