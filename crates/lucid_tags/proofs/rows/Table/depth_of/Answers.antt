use Rattle.lucid_tags.proofs.Common.{◌<◌, ◌-◌, length, refl, arith, slice_get_read}
use Rattle.lucid_tags.proofs.RowLemmas.{IsDepth-first, depth_of-at}
use Rattle.lucid_tags.proofs.rows.Table.depth_of.Goals as goal

pub returns-then-number-eq0 : goal.returns-then-number-eq0
returns-then-number-eq0 c = IsDepth-first c.args.self.now.rows.keys c.args.number c.if-number-eq0.true

pub returns : goal.returns
returns c =
    let full : 0 < c.args.number = omega arith in
    let depths = c.args.self.now.depths.items in
    let within : c.args.number - 1 < length depths = omega arith in
    depth_of-at _ depths c.requires.depths c.args.number full c.index.result.now
    (slice_get_read depths _ (c.args.number - 1) c.index.result.now refl within c.index.ensures)
